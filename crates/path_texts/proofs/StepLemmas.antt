-- The text of steps, grown and cut.
use Rattle.std.proofs.Common.{◌≡◌, ◌≤◌, ◌+◌, ◌-◌, ℕ, zero, suc, List, [], ◌∷◌, ◌++◌, Option, Some, None, refl, sym, ap, ◌∙◌, arith, append_assoc, append-nil, length, take}
use Rattle.std.specs.Prelude.{◌==◌, true, false, map, option_and_then, slice_get}
use Rattle.std.specs.List.{flat_map}
use Rattle.std.specs.Option.{option_map, option_map_or}
use Rattle.std.proofs.lemmas.Bool.Decides.{nat_tests}
use Rattle.std.proofs.lemmas.List.{length-append}
use Rattle.std.proofs.lemmas.Option.{same_Some, none-some}
use Rattle.std.proofs.Math.Seq.{take-append_seam}
use Rattle.netlist_schema.specs.Design.{Design}
use Rattle.netlist_schema.specs.Hierarchy.{insts_at}
use Rattle.netlist_schema.specs.Types.{CellId, Inst, TopHead}
use Rattle.flat_spec.specs.Effective.{insts_along, names_along}
use Rattle.flat_spec.specs.Paths.{Reaches, cell_along}
use Rattle.flat_lines_spec.specs.Lines.{names_text, path_text}
use Rattle.flat_spec.proofs.PathLemmas.{Reaches-parts}
use Rattle.path_texts.specs.Texts.{steps_text}

-- the text of a front is a front of the text
front : (d : Design) (c : CellId) (steps : List ℕ) (k : ℕ) → (rest : List ℕ) × (steps_text d c steps ≡ steps_text d c (take k steps) ++ rest)
front d c steps zero = (steps_text d c steps, refl)
front d c [] (suc k) = ([], refl)
front d c (i ∷ steps) (suc k) = go (slice_get (insts_at d c) i) (λ e. front d e steps k)
  where
    text : Inst → List ℕ
    text inst = 47 ∷ inst.name.id

    go : (o : Option Inst) → ((e : CellId) → (rest : List ℕ) × (steps_text d e steps ≡ steps_text d e (take k steps) ++ rest))
        → (rest : List ℕ) × (flat_map text (option_map_or (λ inst. inst ∷ insts_along d inst.of steps) o [])
        ≡ flat_map text (option_map_or (λ inst. inst ∷ insts_along d inst.of (take k steps)) o []) ++ rest)
    go None further = ([], refl)
    go (Some inst) further =
        let h = further inst.of in
        (h.0, ap (λ v. text inst ++ v) h.1 ∙ sym (append_assoc (text inst) (steps_text d inst.of (take k steps)) h.0))

pub front_text : (d : Design) (c : CellId) (steps : List ℕ) (k : ℕ) → take (length (steps_text d c (take k steps))) (steps_text d c steps) ≡ steps_text d c (take k steps)
front_text d c steps k =
    let h = front d c steps k in
    ap (take (length (steps_text d c (take k steps)))) h.1 ∙ take-append_seam (steps_text d c (take k steps)) h.0

-- a front is no longer than the whole
pub front_fits : (d : Design) (c : CellId) (steps : List ℕ) (k : ℕ) → length (steps_text d c (take k steps)) ≤ length (steps_text d c steps)
front_fits d c steps k =
    let h = front d c steps k in
    let long : length (steps_text d c steps) ≡ length (steps_text d c (take k steps)) + length h.0 = ap length h.1 ∙ length-append (steps_text d c (take k steps)) h.0 in
    omega (arith, long)

-- without its last step
pub last_cut : (d : Design) (c : CellId) (steps : List ℕ) (step : ℕ)
    → take (length (steps_text d c steps)) (steps_text d c (steps ++ step ∷ [])) ≡ steps_text d c steps
last_cut d c steps step =
    let front_is : take (length steps) (steps ++ step ∷ []) ≡ steps = take-append_seam steps (step ∷ []) in
    ap (λ v. take (length (steps_text d c v)) (steps_text d c (steps ++ step ∷ []))) (sym front_is)
    ∙ (front_text d c (steps ++ step ∷ []) (length steps) ∙ ap (steps_text d c) front_is)

-- a step more
step_text : (d : Design) (c : CellId) (step : ℕ) (inst : Inst) → slice_get (insts_at d c) step ≡ Some inst → steps_text d c (step ∷ []) ≡ 47 ∷ inst.name.id
step_text d c step inst is =
    ap (λ o. flat_map (λ (v : Inst). 47 ∷ v.name.id) (option_map_or (λ (v : Inst). v ∷ insts_along d v.of []) o [])) is ∙ append-nil (47 ∷ inst.name.id)

first_text : (d : Design) (c : CellId) (i : ℕ) (steps : List ℕ) (inst : Inst) → slice_get (insts_at d c) i ≡ Some inst
    → steps_text d c (i ∷ steps) ≡ (47 ∷ inst.name.id) ++ steps_text d inst.of steps
first_text d c i steps inst is =
    ap (λ o. flat_map (λ (v : Inst). 47 ∷ v.name.id) (option_map_or (λ (v : Inst). v ∷ insts_along d v.of steps) o [])) is

pub more_text : (d : Design) (c at : CellId) (steps : List ℕ) (step : ℕ) (inst : Inst) → Reaches d c steps at → slice_get (insts_at d at) step ≡ Some inst
    → steps_text d c (steps ++ step ∷ []) ≡ steps_text d c steps ++ 47 ∷ inst.name.id
more_text d c at [] step inst reached is =
    step_text d c step inst (ap (λ v. slice_get (insts_at d v) step) (same_Some c at reached) ∙ is)
more_text d c at (i ∷ steps) step inst reached is =
    let way = Reaches-parts d c i steps at reached in
    first_text d c i (steps ++ step ∷ []) way.0 way.1
    ∙ (ap (λ v. (47 ∷ way.0.name.id) ++ v) (more_text d way.0.of at steps step inst way.2 is)
    ∙ (sym (append_assoc (47 ∷ way.0.name.id) (steps_text d way.0.of steps) (47 ∷ inst.name.id))
    ∙ ap (λ v. v ++ 47 ∷ inst.name.id) (sym (first_text d c i steps way.0 way.1))))

-- the text of a path by its steps
texts_of : (is : List Inst) → flat_map (λ n. 47 ∷ n) (map (λ (v : Inst). v.name.id) is) ≡ flat_map (λ (v : Inst). 47 ∷ v.name.id) is
texts_of [] = refl
texts_of (x ∷ is) = ap (λ v. (47 ∷ x.name.id) ++ v) (texts_of is)

none_named : (is : List Inst) → flat_map (λ (v : Inst). 47 ∷ v.name.id) is ≡ [] → names_text (map (λ (v : Inst). v.name.id) is) ≡ 47 ∷ []
none_named [] h = refl
none_named (x ∷ is) h = absurd (cc h)

some_named : (is : List Inst) (text : List ℕ) → text ≡ flat_map (λ (v : Inst). 47 ∷ v.name.id) is → (text ≡ [] → ⊥) → names_text (map (λ (v : Inst). v.name.id) is) ≡ text
some_named [] text h some = absurd (some h)
some_named (x ∷ is) text h some = texts_of (x ∷ is) ∙ sym h

top_named : (d : Design) (path : List ℕ) (root : CellId) (o : Option TopHead) → option_map (λ (t : TopHead). t.cell) o ≡ Some root
    → option_map_or (λ (t : TopHead). names_along d t.cell path) o [] ≡ names_along d root path
top_named d path root None h = absurd (none-some root h)
top_named d path root (Some t) h = ap (λ c. names_along d c path) (same_Some t.cell root h)

pub without_steps : (d : Design) (root : CellId) (path text : List ℕ) → option_map (λ (t : TopHead). t.cell) d.top ≡ Some root → text ≡ steps_text d root path → text ≡ []
    → 47 ∷ [] ≡ path_text d path
without_steps d root path text top is none =
    sym (ap names_text (top_named d path root d.top top) ∙ none_named (insts_along d root path) (sym is ∙ none))

pub with_steps : (d : Design) (root : CellId) (path text : List ℕ) → option_map (λ (t : TopHead). t.cell) d.top ≡ Some root → text ≡ steps_text d root path → (text ≡ [] → ⊥)
    → text ≡ path_text d path
with_steps d root path text top is some =
    sym (ap names_text (top_named d path root d.top top) ∙ some_named (insts_along d root path) text is some)

pub cell_from : (d : Design) (path : List ℕ) (root c : CellId) (o : Option TopHead) → option_map (λ (t : TopHead). t.cell) o ≡ Some root → Reaches d root path c
    → option_and_then (λ (t : TopHead). cell_along d t.cell path) o ≡ Some c
cell_from d path root c None h at = absurd (none-some root h)
cell_from d path root c (Some t) h at = ap (λ v. cell_along d v path) (same_Some t.cell root h) ∙ at

zero_of : (n : ℕ) → true ≡ (n == 0) → n ≡ 0
zero_of n h = grind (arith, nat_tests)

pub is_none : (xs : List ℕ) → true ≡ (length xs == 0) → xs ≡ []
is_none [] h = refl
is_none (x ∷ xs) h = let none = zero_of (length (x ∷ xs)) h in absurd (omega (arith, none))

pub is_some : (xs : List ℕ) → false ≡ (length xs == 0) → xs ≡ [] → ⊥
is_some [] h none = cc
is_some (x ∷ xs) h none = cc
