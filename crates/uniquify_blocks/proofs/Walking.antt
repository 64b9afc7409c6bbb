-- A walk along a path: what was passed and what is left are the whole.
use Rattle.std.proofs.Common.{◌≡◌, ◌⊎◌, ◌<◌, ◌≤◌, ◌+◌, ℕ, zero, suc, Bool, true, false, cond, List, [], ◌∷◌, ◌++◌, map, length, drop, get_or, Option, Some, None, refl, sym, ap, subst, ◌∙◌, inl, inr, add-one, arith, append_assoc, append-nil}
use Rattle.std.specs.Prelude.{slice_get, option_and_then}
use Rattle.std.specs.List.{Contains}
use Rattle.std.specs.Option.{option_map_or}
use Rattle.std.proofs.lemmas.Bool.{cond-true, cond-false}
use Rattle.std.proofs.lemmas.List.{map-append}
use Rattle.std.proofs.lemmas.List.Elements.{filter-append}
use Rattle.netlist_schema.specs.Design.{Design, cell_at, insts_in}
use Rattle.netlist_schema.specs.Hierarchy.{insts_at}
use Rattle.netlist_schema.specs.Types.{CellId, Inst}
use Rattle.edit_rules_spec.specs.Find.{inst_place}
use Rattle.edit_rules_spec.specs.Paths.{resolves}
use Rattle.edit_rules_spec.specs.Seen.{contents_at}
use Rattle.flat_spec.specs.Occurrences.{Occurrence, under}
use Rattle.flat_spec.proofs.ListLemmas.{Contains-member, Member-append_left, Member-append_right, Member-append_cases, Member-contains}
use Rattle.uniquify_spec.specs.Blocks.{blocks, is_block, root_of, steps_along}
use Rattle.uniquify_spec.specs.Parts.{IsPartOf}
use Rattle.uniquify_spec.proofs.Reached.{block_of_inst}
use Rattle.uniquify_spec.proofs.Agreed.{insts_inside}
use Rattle.edit_cells.specs.State.{State, HasRead}
use Rattle.edit_cells.proofs.Growing.{grows_by_same}
use Rattle.eco_reads.proofs.Reading.{read_then}
use Rattle.uniquify_blocks.specs.ForBlocks.{IsForBlock}
use Rattle.uniquify_blocks.specs.Along.{ArePathBlocks, HasGone, IsForEach, IsOnPath, IsStep, chain}
use Rattle.uniquify_copies.specs.declared.spot.Step.{Step}

-- an occurrence as seen from further up
abbrev pub prefixed : List ℕ → Occurrence → Occurrence
prefixed path o = record { path = path ++ o.path; cell = o.cell }

pub prefixed-under : (path : List ℕ) (i : ℕ) (os : List Occurrence) → map (prefixed path) (map (under i) os) ≡ map (prefixed (path ++ i ∷ [])) os
prefixed-under path i [] = refl
prefixed-under path i (o ∷ os) =
    let here : path ++ i ∷ o.path ≡ (path ++ i ∷ []) ++ o.path = sym (append_assoc path (i ∷ []) o.path) in
    let rest = prefixed-under path i os in
    λ t. record { path = here t; cell = o.cell } ∷ rest t

pub prefixed-nil : (os : List Occurrence) → map (prefixed []) os ≡ os
prefixed-nil [] = refl
prefixed-nil (o ∷ os) = ap (λ l. o ∷ l) (prefixed-nil os)

-- ---- one step

steps_at : (d : Design) (at : CellId) (name : List ℕ) (rest : List (List ℕ)) (step : Step) (inst : Inst) → inst_place name (insts_at d at) ≡ Some step.place → slice_get (insts_at d at) step.place ≡ Some inst → inst.of ≡ step.of
    → steps_along d at (name ∷ rest) ≡ map (under step.place) (root_of step.of ∷ steps_along d step.of rest)
steps_at d at name rest step inst place there of =
    ap (λ (p : Option ℕ). option_map_or (λ i. option_map_or (λ (x : Inst). map (under i) (root_of x.of ∷ steps_along d x.of rest)) (slice_get (insts_at d at) i) []) p []) place
    ∙ ap (λ (o : Option Inst). option_map_or (λ (x : Inst). map (under step.place) (root_of x.of ∷ steps_along d x.of rest)) o []) there
    ∙ ap (λ (c : CellId). map (under step.place) (root_of c ∷ steps_along d c rest)) of

resolves_at : (d : Design) (at : CellId) (name : List ℕ) (rest : List (List ℕ)) (step : Step) (inst : Inst) → inst_place name (insts_at d at) ≡ Some step.place → slice_get (insts_at d at) step.place ≡ Some inst → inst.of ≡ step.of
    → resolves d at (name ∷ rest) ≡ resolves d step.of rest
resolves_at d at name rest step inst place there of =
    ap (λ (o : Option Inst). option_map_or (λ (x : Inst). resolves d x.of rest) o false) (ap (option_and_then (slice_get (insts_at d at))) place ∙ there)
    ∙ ap (λ (c : CellId). resolves d c rest) of

steps_none : (d : Design) (at : CellId) (name : List ℕ) (rest : List (List ℕ)) → inst_place name (insts_at d at) ≡ None → steps_along d at (name ∷ rest) ≡ []
steps_none d at name rest none =
    ap (λ (p : Option ℕ). option_map_or (λ i. option_map_or (λ (x : Inst). map (under i) (root_of x.of ∷ steps_along d x.of rest)) (slice_get (insts_at d at) i) []) p []) none

resolves_none : (d : Design) (at : CellId) (name : List ℕ) (rest : List (List ℕ)) → inst_place name (insts_at d at) ≡ None → resolves d at (name ∷ rest) ≡ false
resolves_none d at name rest none =
    ap (λ (o : Option Inst). option_map_or (λ (x : Inst). resolves d x.of rest) o false) (ap (option_and_then (slice_get (insts_at d at))) none)

-- ---- chains

abbrev pub places : List Step → List ℕ
places steps = map (λ (step : Step). step.place) steps

pub chain_push : (path : List ℕ) (steps : List Step) (step : Step) → chain path (steps ++ step ∷ []) ≡ chain path steps ++ record { path = (path ++ places steps) ++ step.place ∷ []; cell = step.of } ∷ []
chain_push path [] step = ap (λ p. record { path = p ++ step.place ∷ []; cell = step.of } ∷ []) (sym (append-nil path))
chain_push path (s ∷ steps) step =
    ap (λ os. record { path = path ++ s.place ∷ []; cell = s.of } ∷ os)
    (chain_push (path ++ s.place ∷ []) steps step
    ∙ ap (λ p. chain (path ++ s.place ∷ []) steps ++ record { path = p ++ step.place ∷ []; cell = step.of } ∷ []) (append_assoc path (s.place ∷ []) (places steps)))

-- ---- the walk

pub record HasWalked (s u : State) (top at : CellId) (path rest : List (List ℕ)) (steps : List Step) : Type 0 where
  pub so_far : List ℕ
  pub done : List Occurrence
  pub whole : steps_along s.design top path ≡ done ++ map (prefixed so_far) (steps_along s.design at rest)
  pub leads : resolves s.design top path ≡ resolves s.design at rest
  pub blocks_are : blocks s.design done ≡ chain [] steps
  pub places_are : is_block s.design at ≡ true → so_far ≡ places steps
  pub read : HasRead s u (λ o. IsPartOf top o ⊎ IsForEach s.design done o)

none_of : {X : Type 0} (x : X) → Contains [] x → ⊥
none_of x has = Contains-member [] x has

pub walk_starts : (s u : State) (top : CellId) (path : List (List ℕ)) → HasRead s u (IsPartOf top) → HasWalked s u top top path path []
walk_starts s u top path read = record {
  so_far = [];
  done = [];
  whole = sym (prefixed-nil (steps_along s.design top path));
  leads = refl;
  blocks_are = refl;
  places_are = λ block. refl;
  read = record {
    base = read.base;
    design = read.design;
    written = read.written;
    reads = grows_by_same s.reads u.reads (IsPartOf top) (λ o. IsPartOf top o ⊎ IsForEach s.design [] o) read.reads
        (λ o. ((λ part. inl part), (λ any. elim any [ inl part ↦ part | inr each ↦ absurd (none_of each.0 each.1) ])));
  };
}

walk_step : (s u v : State) (top at of : CellId) (path rest : List (List ℕ)) (name : List ℕ) (steps new : List Step) → HasWalked s u top at path (name ∷ rest) steps
    → HasGone u v at name steps new (Some of) → HasWalked s v top of path rest new
walk_step s u v top at of path rest name steps new walk gone = record {
  so_far = walk.so_far ++ step.place ∷ [];
  done = walk.done ++ here ∷ [];
  whole = walk.whole ∙ ap (λ os. walk.done ++ map (prefixed walk.so_far) os) (steps_at d at name rest step inst place there is_of)
      ∙ ap (λ os. walk.done ++ os) (prefixed-under walk.so_far step.place (root_of step.of ∷ steps_along d step.of rest) ∙ split)
      ∙ sym (append_assoc walk.done (here ∷ []) (map (prefixed (walk.so_far ++ step.place ∷ [])) (steps_along d of rest)));
  leads = walk.leads ∙ resolves_at d at name rest step inst place there is_of ∙ ap (λ (c : CellId). resolves d c rest) of_is;
  blocks_are = filter-append (λ (o : Occurrence). is_block d o.cell) walk.done (here ∷ []) ∙ ap (λ os. os ++ blocks d (here ∷ [])) walk.blocks_are ∙ by (is_block d of) refl;
  places_are = λ block. ap (λ p. p ++ step.place ∷ []) so_far_is ∙ sym (ap places (new_block block) ∙ map-append (λ (x : Step). x.place) steps (step ∷ []));
  read = read_then s u v (λ o. IsPartOf top o ⊎ IsForEach d walk.done o) (IsForBlock u.design of) (λ o. IsPartOf top o ⊎ IsForEach d (walk.done ++ here ∷ []) o) walk.read read
      (λ o. (
        λ any. elim any [
          | inl old ↦ elim old [ inl part ↦ inl part | inr each ↦ inr (each.0, among each.0 (inl each.1), each.2) ]
          | inr new ↦ inr (here, among here (inr refl), subst (λ (e : Design). IsForBlock e of o) same new)
        ],
        λ any. elim any [
          | inl part ↦ inl (inl part)
          | inr each ↦ elim (either each.0 each.1) [
            | inl old ↦ inl (inr (each.0, old, each.2))
            | inr is ↦ inr (subst (λ (e : Design). IsForBlock e of o) (sym same) (subst (λ (x : Occurrence). IsForBlock d x.cell o) is each.2))
          ]
        ],
      ));
}
  where
    d : Design
    d = s.design

    same : u.design ≡ d
    same = walk.read.design

    step : Step
    step = gone.0

    of_is : step.of ≡ of
    of_is = gone.1

    inst : Inst
    inst = gone.2.0

    place : inst_place name (insts_at d at) ≡ Some step.place
    place = subst (λ (e : Design). inst_place name (insts_at e at) ≡ Some step.place) same gone.2.1

    there : slice_get (insts_at d at) step.place ≡ Some inst
    there = subst (λ (e : Design). slice_get (insts_at e at) step.place ≡ Some inst) same gone.2.2

    is_of : inst.of ≡ step.of
    is_of = gone.2.3

    read : HasRead u v (IsForBlock u.design of)
    read = gone.3

    here : Occurrence
    here = record { path = walk.so_far ++ step.place ∷ []; cell = of }

    split : map (prefixed (walk.so_far ++ step.place ∷ [])) (root_of step.of ∷ steps_along d step.of rest) ≡ here ∷ map (prefixed (walk.so_far ++ step.place ∷ [])) (steps_along d of rest)
    split = λ t. record { path = append-nil (walk.so_far ++ step.place ∷ []) t; cell = of_is t } ∷ map (prefixed (walk.so_far ++ step.place ∷ [])) (steps_along d (of_is t) rest)

    so_far_is : walk.so_far ≡ places steps
    so_far_is = walk.places_are (block_of_inst d at step.place inst there)

    new_is : new ≡ steps ++ cond (is_block d of) (step ∷ []) []
    new_is = subst (λ (e : Design). new ≡ steps ++ cond (is_block e of) (step ∷ []) []) same gone.4

    new_block : is_block d of ≡ true → new ≡ steps ++ step ∷ []
    new_block block = new_is ∙ ap (λ l. steps ++ l) (cond-true _ _ _ block)

    by : (b : Bool) → is_block d of ≡ b → chain [] steps ++ blocks d (here ∷ []) ≡ chain [] new
    by true block =
        ap (λ os. chain [] steps ++ os) (cond-true _ _ _ block)
        ∙ (λ t. chain [] steps ++ record { path = so_far_is t ++ step.place ∷ []; cell = sym of_is t } ∷ [])
        ∙ sym (chain_push [] steps step)
        ∙ ap (chain []) (sym (new_block block))
    by false leaf =
        ap (λ os. chain [] steps ++ os) (cond-false (is_block d of) (here ∷ []) [] leaf) ∙ append-nil (chain [] steps)
        ∙ ap (chain []) (sym (new_is ∙ ap (λ l. steps ++ l) (cond-false (is_block d of) (step ∷ []) [] leaf) ∙ append-nil steps))

    among : (x : Occurrence) → Contains walk.done x ⊎ (x ≡ here) → Contains (walk.done ++ here ∷ []) x
    among x any = Member-contains (walk.done ++ here ∷ []) x (elim any [
      | inl old ↦ Member-append_left walk.done (here ∷ []) x (Contains-member walk.done x old)
      | inr is ↦ Member-append_right walk.done (here ∷ []) x (inl (sym is))
    ])

    either : (x : Occurrence) → Contains (walk.done ++ here ∷ []) x → Contains walk.done x ⊎ (x ≡ here)
    either x has = elim (Member-append_cases walk.done (here ∷ []) x (Contains-member (walk.done ++ here ∷ []) x has)) [
      | inl old ↦ inl (Member-contains walk.done x old)
      | inr new ↦ elim new [ inl e ↦ inr (sym e) | inr never ↦ absurd never ]
    ]

-- what the call finds and reads
pub gone_none : (s u : State) (at : CellId) (name : List ℕ) (old : List Step) → inst_place name (insts_in (contents_at s.design at)) ≡ None → u ≡ s → HasGone s u at name old old None
gone_none s u at name old none same = (subst (λ insts. inst_place name insts ≡ None) (insts_inside (cell_at s.design at)) none, same, refl)

pub gone_some : (s t u : State) (at : CellId) (name : List ℕ) (old new : List Step) (step : Step) (block : Bool) → IsStep (insts_in (contents_at s.design at)) name (Some step) → t ≡ s
    → block ≡ is_block t.design step.of → HasRead t u (IsForBlock t.design step.of) → new ≡ old ++ cond block (step ∷ []) [] → HasGone s u at name old new (Some step.of)
gone_some s t u at name old new step block found same block_is read added = (
  step,
  refl,
  subst (λ insts. IsStep insts name (Some step)) (insts_inside (cell_at s.design at)) found,
  subst (λ (x : State). HasRead x u (IsForBlock x.design step.of)) same read,
  added ∙ ap (λ b. old ++ cond b (step ∷ []) []) (block_is ∙ ap (λ (x : State). is_block x.design step.of) same),
)

-- the loop takes what is left apart
pub first_left : (xs : List (List ℕ)) (i : ℕ) (x : List ℕ) → i < length xs → x ≡ get_or xs i x → drop i xs ≡ x ∷ drop (suc i) xs
first_left [] i x less is = absurd (omega arith)
first_left (y ∷ ys) zero x less is = ap (λ z. z ∷ ys) (sym is)
first_left (y ∷ ys) (suc i) x less is = first_left ys i x (omega (arith, less)) is

pub walk_on : (s u v : State) (top at of : CellId) (path : List (List ℕ)) (i : ℕ) (name : List ℕ) (steps new : List Step) → i < length path → name ≡ get_or path i name
    → HasWalked s u top at path (drop i path) steps → HasGone u v at name steps new (Some of) → HasWalked s v top of path (drop (i + 1) path) new
walk_on s u v top at of path i name steps new less is walk gone =
    subst (λ n. HasWalked s v top of path (drop n path) new) (sym (add-one i))
    (walk_step s u v top at of path (drop (suc i) path) name steps new (subst (λ l. HasWalked s u top at path l steps) (first_left path i name less is) walk) gone)

abbrev pub Read : State → State → CellId → List (List ℕ) → Type 0
Read s u top path = HasRead s u (IsOnPath s.design top path)

pub walk_stops : (s u v : State) (top at : CellId) (path rest : List (List ℕ)) (name : List ℕ) (steps new : List Step) → HasWalked s u top at path (name ∷ rest) steps
    → HasGone u v at name steps new None → ArePathBlocks s.design top path None × Read s v top path
walk_stops s u v top at path rest name steps new walk gone = (
  walk.leads ∙ resolves_none s.design at name rest none,
  subst (λ (t : State). Read s t top path) (sym gone.1) (subst (λ os. HasRead s u (λ o. IsPartOf top o ⊎ IsForEach s.design os o)) (sym all) walk.read),
)
  where
    none : inst_place name (insts_at s.design at) ≡ None
    none = subst (λ (e : Design). inst_place name (insts_at e at) ≡ None) walk.read.design gone.0

    all : steps_along s.design top path ≡ walk.done
    all = walk.whole ∙ ap (λ os. walk.done ++ map (prefixed walk.so_far) os) (steps_none s.design at name rest none) ∙ append-nil walk.done

pub walk_done : (s u : State) (top at : CellId) (path : List (List ℕ)) (steps : List Step) → HasWalked s u top at path [] steps → ArePathBlocks s.design top path (Some steps) × Read s u top path
walk_done s u top at path steps walk = (
  (walk.leads, ap (blocks s.design) all ∙ walk.blocks_are),
  subst (λ os. HasRead s u (λ o. IsPartOf top o ⊎ IsForEach s.design os o)) (sym all) walk.read,
)
  where
    all : steps_along s.design top path ≡ walk.done
    all = walk.whole ∙ append-nil walk.done

pub left_none : (xs : List (List ℕ)) (i : ℕ) → length xs ≤ i → drop i xs ≡ []
left_none [] zero past = refl
left_none [] (suc i) past = refl
left_none (x ∷ xs) zero past = absurd (omega arith)
left_none (x ∷ xs) (suc i) past = left_none xs i (omega (arith, past))
