-- The blocks along a path are split as the laws on splits ask.
use Rattle.std.proofs.Common.{◌≡◌, ◌≢◌, ◌⊎◌, ℕ, List, [], ◌∷◌, ◌++◌, map, refl, sym, ap, subst, ◌∙◌, inl, inr, Option, Some, None, true}
use Rattle.std.specs.Prelude.{slice_get}
use Rattle.std.specs.Option.{option_map_or}
use Rattle.netlist_schema.specs.Design.{Design}
use Rattle.netlist_schema.specs.Hierarchy.{IsCell, insts_at}
use Rattle.netlist_schema.specs.Types.{CellId, Inst}
use Rattle.netlist_schema.specs.Valid.{IsValid}
use Rattle.edit_rules_spec.specs.Find.{inst_place}
use Rattle.edit_rules_spec.proofs.Closed.{valid_is_closed}
use Rattle.flat_spec.specs.Occurrences.{Occurrence, under}
use Rattle.flat_spec.specs.Paths.{cell_along, Reaches}
use Rattle.flat_spec.proofs.ListLemmas.{Member, Member-map, Member-from_map, Member-filter, Member-from_filter}
use Rattle.flat_spec.proofs.PathLemmas.{Some-same, Reaches-cons, Reaches-front, Reaches-parts}
use Rattle.uniquify_spec.specs.Blocks.{is_block, blocks, root_of, steps_along, along_path}
use Rattle.uniquify_spec.specs.Copies.{Copy}
use Rattle.uniquify_spec.proofs.BlockSplit.{copies_are_new, copy_comes, copy_made}
use Rattle.uniquify_spec.proofs.Reached.{reached_is_below, reached_is_cell, block_of_inst}
use Rattle.uniquify_spec.proofs.SplitCells.{IsSplit, IsKept, HasCopy}

-- the occurrences behind an instance that is found, and behind a place that is found
abbrev behind : Design → List (List ℕ) → ℕ → Inst → List Occurrence
behind d steps i inst = map (under i) (root_of inst.of ∷ steps_along d inst.of steps)

-- an occurrence along a path of names: the instance of the first step, and the occurrence as seen from its cell
record FirstStep (d : Design) (c : CellId) (steps : List (List ℕ)) (all : List Occurrence) (o : Occurrence) : Type 0 where
  pub place : ℕ
  pub inst : Inst
  pub rest : Occurrence
  pub at : slice_get (insts_at d c) place ≡ Some inst
  pub there : Member (root_of inst.of ∷ steps_along d inst.of steps) rest
  pub is : under place rest ≡ o
  pub back : (q : Occurrence) → Member (root_of inst.of ∷ steps_along d inst.of steps) q → Member all (under place q)

of_inst : (d : Design) (c : CellId) (steps : List (List ℕ)) (i : ℕ) (got : Option Inst) → slice_get (insts_at d c) i ≡ got → (o : Occurrence)
    → Member (option_map_or (behind d steps i) got []) o → FirstStep d c steps (option_map_or (behind d steps i) got []) o
of_inst d c steps i None at o member = absurd member
of_inst d c steps i (Some inst) at o member =
    let inner = root_of inst.of ∷ steps_along d inst.of steps in
    let from = Member-from_map (under i) inner o member in
    record { place = i; inst = inst; rest = from.0; at = at; there = from.1; is = from.2; back = λ q m. Member-map (under i) inner q m }

of_place : (d : Design) (c : CellId) (steps : List (List ℕ)) (place : Option ℕ) (o : Occurrence)
    → Member (option_map_or (λ i. option_map_or (behind d steps i) (slice_get (insts_at d c) i) []) place []) o
    → FirstStep d c steps (option_map_or (λ i. option_map_or (behind d steps i) (slice_get (insts_at d c) i) []) place []) o
of_place d c steps None o member = absurd member
of_place d c steps (Some i) o member = of_inst d c steps i (slice_get (insts_at d c) i) refl o member

first_step : (d : Design) (c : CellId) (step : List ℕ) (steps : List (List ℕ)) (o : Occurrence) → Member (steps_along d c (step ∷ steps)) o
    → FirstStep d c steps (steps_along d c (step ∷ steps)) o
first_step d c step steps o member = of_place d c steps (inst_place step (insts_at d c)) o member

-- each occurrence along the path is at the end of its own path, which has a step
pub step_reached : (d : Design) (names : List (List ℕ)) (c : CellId) (o : Occurrence) → Member (steps_along d c names) o → Reaches d c o.path o.cell
step_reached d [] c o member = absurd member
step_reached d (step ∷ steps) c o member =
    let f = first_step d c step steps o member in
    let on : Reaches d f.inst.of f.rest.path f.rest.cell = elim f.there [
      | inl e ↦ subst (λ (x : Occurrence). Reaches d f.inst.of x.path x.cell) e refl
      | inr more ↦ step_reached d steps f.inst.of f.rest more
    ] in
    subst (λ (x : Occurrence). Reaches d c x.path x.cell) f.is (Reaches-cons d c f.place f.inst f.rest.path f.rest.cell f.at on)

pub step_has_step : (d : Design) (names : List (List ℕ)) (c : CellId) (o : Occurrence) → Member (steps_along d c names) o → o.path ≢ []
step_has_step d [] c o member same = absurd member
step_has_step d (step ∷ steps) c o member same =
    let f = first_step d c step steps o member in
    let never : f.place ∷ f.rest.path ≡ [] = ap (λ (x : Occurrence). x.path) f.is ∙ same in
    cc

-- the occurrence above one along the path is along the path too, or where the path begins
pub step_above : (d : Design) (names : List (List ℕ)) (c : CellId) (o : Occurrence) → Member (steps_along d c names) o → (path : List ℕ) (i : ℕ) → o.path ≡ path ++ i ∷ []
    → (path ≡ []) ⊎ ((q : Occurrence) × Member (steps_along d c names) q × (q.path ≡ path))
step_above d [] c o member path i at = absurd member
step_above d (step ∷ steps) c o member [] i at = inl refl
step_above d (step ∷ steps) c o member (j ∷ path) i at =
    let f = first_step d c step steps o member in
    let whole : f.place ∷ f.rest.path ≡ j ∷ path ++ i ∷ [] = ap (λ (x : Occurrence). x.path) f.is ∙ at in
    let place : f.place ≡ j = cc in
    let rest : f.rest.path ≡ path ++ i ∷ [] = cc in
    elim f.there [
      | inl e ↦ let none : [] ≡ path ++ i ∷ [] = ap (λ (x : Occurrence). x.path) e ∙ rest in absurd (not_none path i none)
      | inr more ↦ elim (step_above d steps f.inst.of f.rest more path i rest) [
        | inl root ↦ inr (under f.place (root_of f.inst.of), f.back (root_of f.inst.of) (inl refl), λ t. place t ∷ sym root t)
        | inr q ↦ inr (under f.place q.0, f.back q.0 (inr q.1), λ t. place t ∷ q.2 t)
      ]
    ]
  where
    not_none : (path : List ℕ) (i : ℕ) → [] ≡ path ++ i ∷ [] → ⊥
    not_none [] i e = cc
    not_none (x ∷ path) i e = cc

pub along_path_is_split : (d : Design) → IsValid d → (names : List (List ℕ)) (r : CellId) → IsCell d r → IsSplit d r (along_path d names r)
along_path_is_split d valid names r is = record {
  cells = reached;
  kept_reached = λ o member. elim member [ inl e ↦ subst (λ (x : Occurrence). Reaches d r x.path x.cell) e refl | inr none ↦ absurd none ];
  kept_apart = (λ q none same. none, tt);
  copies_reached = λ m member. copy_reached m member;
  copies_below = λ m member same. let from = copy_parts m member in step_has_step d names r from.0 from.1 (sym from.2 ∙ same);
  copies_of_blocks = λ m member. let from = copy_parts m member in ap (is_block d) from.3 ∙ from.4;
  new = copies_are_new d (blocks d (steps_along d r names)) []
      (λ o member. let step = (Member-from_filter (λ (o : Occurrence). is_block d o.cell) (steps_along d r names) o member).0 in reached o.path o.cell (step_reached d names r o step));
  mine = λ path o member at. elim member [ inl e ↦ root_alone path (subst (λ (x : Occurrence). Reaches d r path x.cell) (sym e) at) | inr none ↦ absurd none ];
  parents = λ m member path i at.
      let from = copy_parts m member in
      let front = Reaches-front d r m.of path (i ∷ []) (subst (λ p. Reaches d r p m.of) at (copy_reached m member)) in
      let parts = Reaches-parts d front.0 i [] m.of front.2 in
      let block = block_of_inst d front.0 i parts.0 parts.1 in
      elim (step_above d names r from.0 from.1 path i (sym from.2 ∙ at)) [
        | inl none ↦ inl (root_of r, inl refl, sym none)
        | inr q ↦
            let same : q.0.cell ≡ front.0 = Some-same (cell_along d r path) (subst (λ p. Reaches d r p q.0.cell) q.2 (step_reached d names r q.0 q.1)) front.1 in
            let listed = Member-filter (λ (o : Occurrence). is_block d o.cell) (steps_along d r names) q.0 q.1 (ap (is_block d) same ∙ block) in
            let made = copy_made d (blocks d (steps_along d r names)) [] q.0 listed in
            inr (made.0, made.1, made.2 ∙ q.2)
      ];
}
  where
    reached : (path : List ℕ) (c : CellId) → Reaches d r path c → IsCell d c
    reached = reached_is_cell d (valid_is_closed d valid) r is

    copy_parts : (m : Copy) → Member (along_path d names r).copies m
        → (o : Occurrence) × Member (steps_along d r names) o × (m.path ≡ o.path) × (m.of ≡ o.cell) × (is_block d o.cell ≡ true)
    copy_parts m member =
        let from = copy_comes d (blocks d (steps_along d r names)) [] m member in
        let both = Member-from_filter (λ (o : Occurrence). is_block d o.cell) (steps_along d r names) from.0 from.1 in
        (from.0, both.0, from.2, from.3, both.1)

    copy_reached : (m : Copy) → Member (along_path d names r).copies m → Reaches d r m.path m.of
    copy_reached m member =
        let from = copy_parts m member in
        subst (λ p. Reaches d r p m.of) (sym from.2) (subst (λ k. Reaches d r from.0.path k) (sym from.3) (step_reached d names r from.0 from.1))

    root_alone : (path : List ℕ) → Reaches d r path r → IsKept (along_path d names r) path ⊎ HasCopy (along_path d names r) path
    root_alone [] at = inl (root_of r, inl refl, refl)
    root_alone (i ∷ path) at = absurd (valid.no_cycle r (reached_is_below d path i r r at))
