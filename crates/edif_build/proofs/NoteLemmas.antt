-- Notes, their paths step by step, and their keys one more at a time.
use Rattle.std.proofs.Common.{◌≡◌, ℕ, suc, ◌+◌, ◌<◌, ◌≤◌, List, [], ◌∷◌, ◌++◌, map, length, drop, refl, ap, sym, ◌∙◌, subst, inl, inr, Bool, true, false, Some, None, arith, length-append, append-nil, Bor}
use Rattle.std.specs.Prelude.{◌||◌, slice_get}
use Rattle.std.specs.List.{AllByRecursion}
use Rattle.std.proofs.lemmas.List.Elements.{All-from_recursion}
use Rattle.netlist_schema.specs.Ident.{IsIdentifier}
use Rattle.netlist_schema.proofs.Lists.{some_of, drop_next}
use Rattle.edif_spelling_spec.specs.Tree.{Placed, Form', Word', trees, bare}
use Rattle.edif_spec.specs.Design as design
use Rattle.edif_spec.specs.Faults.{arguments, place_of, FixedFault, FollowerFault}
use Rattle.edif_spec.specs.Means.{Meant as Meaning, Found, Absent, Several, MeansPath, meant}
use Rattle.edif_spec.specs.Rows.{has_keyword}
use Rattle.edif_spec.specs.Stands.{StepFault, StepsTo, PathFault, StepsFault, bad_form, note_parts}
use Rattle.edif_spec.specs.Stands as stands
use Rattle.edif_spec.specs.declared.keyword.Keyword.TheVariants as keywords
use Rattle.edif_spec.specs.declared.fault.Kind.TheVariants.{BadForm, BadPath}
use Rattle.edif_spec.specs.declared.fault.MeaningFault.{MeaningFault}
use Rattle.edif_spec.specs.declared.fault.MeaningFault.TheVariants.{At}
use Rattle.edif_spec.proofs.Defined.{meant_there, name_there}
use Rattle.edif_spec.proofs.KnownValid.{regroup}
use Rattle.edif_spec.proofs.FaultExamples.{items_of}
use Rattle.edif_names.specs.declared.scope.Meant.{Meant}
use Rattle.edif_names.specs.declared.scope.Meant.TheVariants as answers
use Rattle.edif_tree.specs.Nodes as nodes
use Rattle.edif_tree.specs.Handles.{Shows, here}
use Rattle.edif_tree.specs.declared.node.Shape.TheVariants as shapes
use Rattle.edif_parts.specs.Names.{Tells}
use Rattle.edif_build.specs.Notes.{HasNoteParts, ReadPath, ShapeFault}
use Rattle.edif_build.specs.declared.notes.NoteParts.{NoteParts}
use Rattle.edif_grammar.proofs.Misplaced.{place_is}

-- The arguments of a form.
pub behind_first : (t u : Placed) (us vs : List Placed) → t ≡ Form' (nodes.place_of t) (trees us) → us ≡ u ∷ vs → vs ≡ arguments t
behind_first t u us vs e f = sym (ap arguments (e ∙ ap (λ v. Form' (nodes.place_of t) (trees v)) f) ∙ items_of vs)

-- The shape of a note.
few : (p : ℕ) (ts : List Placed) → length ts < 3 → FixedFault bad_form p note_parts ts (At BadForm p)
few p [] l = refl
few p (a ∷ []) l = inr refl
few p (a ∷ b ∷ []) l = inr (inr refl)
few p (a ∷ b ∷ c ∷ ts) l = absurd (omega arith)

pub too_few : (t : Placed) (place : ℕ) → length (arguments t) < 3 → place ≡ place_of t → ShapeFault t (At BadForm place)
too_few t place l e = let P : ℕ → Type 0 = λ v. ShapeFault t (At BadForm v) in subst P (sym e) (inl (few (place_of t) (arguments t) l))

-- the mark, the path and what follows it
marked : (ts : List Placed) (u : Placed) → slice_get ts 1 ≡ Some u → (a : Placed) × (rest : List Placed) × (ts ≡ a ∷ u ∷ rest)
marked [] u g = absurd (cc g)
marked (a ∷ ts) u g = (a, drop 1 ts, ap (λ v. a ∷ v) (drop_next ts 0 u g))

-- the mark, the path, the property and what follows it
whole : (ts : List Placed) (u v : Placed) → slice_get ts 1 ≡ Some u → slice_get ts 2 ≡ Some v → (a : Placed) × (rest : List Placed) × (ts ≡ a ∷ u ∷ v ∷ rest)
whole [] u v g h = absurd (cc g)
whole (a ∷ []) u v g h = absurd (cc g)
whole (a ∷ b ∷ ts) u v g h = (let w : b ≡ u = cc g in (a, drop 1 ts, (λ i. a ∷ w i ∷ drop_next ts 0 v h i)))

not_the : (b : Bool) → b ≡ false → (b || false) ≡ false
not_the b h = ap (λ v. v || false) h

pub wrong_path : (t u : Placed) (ts : List Placed) (place : ℕ) → ts ≡ arguments t → slice_get ts 1 ≡ Some u → has_keyword keywords.Path (bare u) ≡ false → place ≡ nodes.place_of u → ShapeFault t (At BadForm place)
wrong_path t u ts place q g n e =
    let r = marked ts u g in
    let P : List Placed → Type 0 = λ v. FixedFault bad_form (place_of t) note_parts v (At BadForm place) in
    inl (subst P (sym r.2 ∙ q) (inr (inl (not_the (has_keyword keywords.Path (bare u)) n, ap (λ v. At BadForm v) (e ∙ place_is u)))))

pub wrong_property : (t u v : Placed) (ts : List Placed) (place : ℕ) → ts ≡ arguments t → slice_get ts 1 ≡ Some u → slice_get ts 2 ≡ Some v → has_keyword keywords.Property (bare v) ≡ false → place ≡ nodes.place_of v → ShapeFault t (At BadForm place)
wrong_property t u v ts place q g h n e =
    let r = whole ts u v g h in
    let P : List Placed → Type 0 = λ v. FixedFault bad_form (place_of t) note_parts v (At BadForm place) in
    inl (subst P (sym r.2 ∙ q) (inr (inr (inl (not_the (has_keyword keywords.Property (bare v)) n, ap (λ v. At BadForm v) (e ∙ place_is v))))))

pub too_many : (t y : Placed) (ts : List Placed) (place : ℕ) → ts ≡ arguments t → slice_get ts 3 ≡ Some y → place ≡ nodes.place_of y → ShapeFault t (At BadForm place)
too_many t y ts place q g e =
    let P : List Placed → Type 0 = λ v. FollowerFault bad_form [] v (At BadForm place) in
    inr (subst P (sym (drop_next ts 3 y g) ∙ ap (drop 3) q) (inl (refl, ap (λ v. At BadForm v) (e ∙ place_is y))))

pub parts_are : (t : Placed) (p : NoteParts) (ts : List Placed) → ts ≡ arguments t → length ts ≤ 3 → slice_get ts 1 ≡ Some (here p.path) → slice_get ts 2 ≡ Some (here p.property) → has_keyword keywords.Path (bare (here p.path)) ≡ true → has_keyword keywords.Property (bare (here p.property)) ≡ true → HasNoteParts t p
parts_are t p ts q l g h k m =
    let r = whole ts (here p.path) (here p.property) g h in
    let n : length ts ≡ suc (suc (suc (length r.1))) = ap length r.2 in
    record { mark = r.0; are = sym q ∙ r.2 ∙ ap (λ v. r.0 ∷ here p.path ∷ here p.property ∷ v) (none r.1 (omega (arith, n, l))); is_path = k; is_property = m }
  where
    none : (us : List Placed) → length us ≤ 0 → us ≡ []
    none [] l = refl
    none (u ∷ us) l = absurd (omega arith)

-- Steps.
pub word_shape : (name : Bor (List ℕ)) (t : Placed) → Shows (shapes.Word name) t → t ≡ Word' (place_of t) name.now
word_shape name t h = h ∙ ap (λ p. Word' p name.now) (place_is t)

pub not_found : (m : Meaning) (r : Meant) → Tells m r → ((i : ℕ) → r ≡ answers.Found i → ⊥) → (i : ℕ) → m ≡ Found i → ⊥
not_found (Found j) (answers.Found k) h n i e = n k refl
not_found (Found j) answers.Absent h n i e = h
not_found (Found j) answers.Several h n i e = h
not_found Absent r h n i e = cc e
not_found Several r h n i e = cc e

pub bad_step : (libs : List design.Lib) (id : design.CellId) (t : Placed) (w : List ℕ) (place : ℕ) (r : Meant) → t ≡ Word' (place_of t) w → place ≡ nodes.place_of t → Tells (meant (design.inst_ids (design.insts_at libs id)) w) r → ((i : ℕ) → r ≡ answers.Found i → ⊥)
    → StepFault libs id (λ _. ⊥) t (At BadPath place)
bad_step libs id t w place r e p h n = stands.lost_step (record { spelled = w; place = place_of t; is = e; lost = not_found (meant (design.inst_ids (design.insts_at libs id)) w) r h n; fault = ap (λ v. At BadPath v) (p ∙ place_is t) })

found_is : (m : Meaning) (i : ℕ) → Tells m (answers.Found i) → m ≡ Found i
found_is (Found j) i h = ap (λ v. Found v) h
found_is Absent i h = absurd h
found_is Several i h = absurd h

pub step_is : (libs : List design.Lib) (id : design.CellId) (t : Placed) (w : List ℕ) (i : ℕ) (x : design.Inst) → t ≡ Word' (place_of t) w → Tells (meant (design.inst_ids (design.insts_at libs id)) w) (answers.Found i) → slice_get (design.insts_at libs id) i ≡ Some x → StepsTo libs id t x
step_is libs id t w i x e h g = record { spelled = w; place = place_of t; at = i; is = e; means = found_is (meant (design.inst_ids (design.insts_at libs id)) w) i h; there = g }

pub inst_there : (libs : List design.Lib) (id : design.CellId) (w : List ℕ) (i : ℕ) → Tells (meant (design.inst_ids (design.insts_at libs id)) w) (answers.Found i) → slice_get (design.insts_at libs id) i ≡ None → ⊥
inst_there libs id w i h e =
    let m = found_is (meant (design.inst_ids (design.insts_at libs id)) w) i h in
    let s = some_of (slice_get (design.insts_at libs id) i) (name_there (λ (x : design.Inst). x.name.id) (design.insts_at libs id) i (meant_there (design.inst_ids (design.insts_at libs id)) w i m)) in
    let c : None ≡ Some s.0 = sym e ∙ s.1 in cc c

-- a path so far, where these steps are left
pub record Onward (libs : List design.Lib) (top : design.CellId) (ts us : List Placed) (id : design.CellId) (path : List (List ℕ)) : Type 0 where
  pub means : (rest : List (List ℕ)) → MeansPath libs id (map bare us) rest → MeansPath libs top (map bare ts) (path ++ rest)
  pub fails : (f : MeaningFault) → StepsFault libs id us f → StepsFault libs top ts f
  pub typed : AllByRecursion IsIdentifier path
  pub count : length path + length us ≡ length ts

pub onward_start : (libs : List design.Lib) (top : design.CellId) (ts us : List Placed) → us ≡ ts → Onward libs top ts us top []
onward_start libs top ts us e =
    let P : List Placed → Type 0 = λ v. Onward libs top ts v top [] in
    subst P (sym e) (record { means = λ rest m. m; fails = λ f b. b; typed = tt; count = omega arith })

idents_push : (ns : List (List ℕ)) (n : List ℕ) → AllByRecursion IsIdentifier ns → IsIdentifier n → AllByRecursion IsIdentifier (ns ++ n ∷ [])
idents_push [] n h k = (k, tt)
idents_push (m ∷ ns) n h k = (h.0, idents_push ns n h.1 k)

pub onward_step : (libs : List design.Lib) (top : design.CellId) (ts us left : List Placed) (id : design.CellId) (path : List (List ℕ)) (t : Placed) (x : design.Inst) (name : List ℕ) → Onward libs top ts us id path → us ≡ t ∷ left → StepsTo libs id t x → name ≡ x.name.id → IsIdentifier name
    → Onward libs top ts left x.of (path ++ name ∷ [])
onward_step libs top ts us left id path t x name h d s e k =
    let c : length (path ++ name ∷ []) ≡ length path + 1 = length-append path (name ∷ []) in
    let n : length path + length us ≡ length ts = h.count in
    let l : length us ≡ suc (length left) = ap length d in
    record {
      means = λ rest m.
          let P : List Placed → Type 0 = λ v. MeansPath libs id (map bare v) (name ∷ rest) in
          let Q : List (List ℕ) → Type 0 = λ v. MeansPath libs top (map bare ts) v in
          subst Q (sym (regroup path (name ∷ []) rest)) (h.means (name ∷ rest) (subst P (sym d) (s.spelled, s.at, x, ap bare s.is, s.means, s.there, e, m)));
      fails = λ f b. let P : List Placed → Type 0 = λ v. StepsFault libs id v f in h.fails f (subst P (sym d) (stands.later_step x s b));
      typed = idents_push path name h.typed k;
      count = omega (arith, c, n, l);
    }

pub onward_fails : (libs : List design.Lib) (top : design.CellId) (ts us left : List Placed) (id : design.CellId) (path : List (List ℕ)) (t : Placed) (f : MeaningFault) → Onward libs top ts us id path → us ≡ t ∷ left → StepFault libs id (λ _. ⊥) t f → StepsFault libs top ts f
onward_fails libs top ts us left id path t f h d b =
    let P : List Placed → Type 0 = λ v. StepsFault libs id v f in
    h.fails f (subst P (sym d) (go b))
  where
    go : StepFault libs id (λ _. ⊥) t f → StepsFault libs id (t ∷ left) f
    go (stands.no_step n e) = stands.no_step n e
    go (stands.lost_step l) = stands.lost_step l
    go (stands.later_step x s e) = absurd e

pub onward_end : (libs : List design.Lib) (top : design.CellId) (t : Placed) (us : List Placed) (id : design.CellId) (path : List (List ℕ)) → Onward libs top (arguments t) us id path → us ≡ [] → 0 < length (arguments t) → ReadPath libs top t path
onward_end libs top t us id path h e l =
    let P : List Placed → Type 0 = λ v. MeansPath libs id (map bare v) [] in
    let Q : List (List ℕ) → Type 0 = λ v. MeansPath libs top (map bare (arguments t)) v in
    let n : length path + length us ≡ length (arguments t) = h.count in
    let z : length us ≡ 0 = ap length e in
    record { mean = subst Q (append-nil path) (h.means [] (subst P (sym e) tt)); typed = All-from_recursion IsIdentifier path h.typed; some_step = omega (arith, n, l, z) }

pub no_steps : (libs : List design.Lib) (top : design.CellId) (t : Placed) (place : ℕ) → length (arguments t) < 1 → place ≡ nodes.place_of t → PathFault libs top t (At BadPath place)
no_steps libs top t place l p = stands.no_steps (go (arguments t) l) (ap (λ v. At BadPath v) (p ∙ place_is t))
  where
    go : (us : List Placed) → length us < 1 → us ≡ []
    go [] l = refl
    go (u ∷ us) l = absurd (omega arith)

pub path_fails : (libs : List design.Lib) (top : design.CellId) (t : Placed) (f : MeaningFault) → StepsFault libs top (arguments t) f → PathFault libs top t f
path_fails libs top t f b = stands.bad_step b
