-- Each cell of a valid design has a bounded rank above those of the cells placed in it, so the test whether a cell is below another is right.
use Rattle.std.proofs.Common.{◌≡◌, ℕ, zero, suc, ◌<◌, ◌≤◌, true, false, List, [], ◌∷◌, length, arith, refl, ap, subst, slice_index_or, ⊎_elim, eq-eqb, ◌∙◌}
use Rattle.std.proofs.lemmas.Bool.{or_cases, eqb-true, and_parts}
use Rattle.std.specs.List.{Contains, list_any}
use Rattle.std.specs.Prelude.{Bool, IsTrue, ◌==◌, ◌||◌, ◌↔◌}
use Rattle.netlist_schema.specs.Design.{Design}
use Rattle.netlist_schema.specs.Hierarchy.{HasInst, insts_at, IsBelow, placed, deeper}
use Rattle.netlist_schema.specs.Valid.{IsValid}
use Rattle.netlist_schema.specs.declared.cell.Inst.{Inst}
use Rattle.netlist_schema.specs.declared.ids.CellId.{CellId}
use Rattle.netlist_schema.proofs.Ranks.{depth, depth-le, depth_falls}
use Rattle.edit_rules_spec.specs.Paths.{most_cells, same_cell, below_within, is_below}

Contains-tail : (x y : Inst) (xs : List Inst) → Contains xs y → Contains (x ∷ xs) y
Contains-tail x y xs has = (suc has.0, omega arith, has.2)

Contains-head : (x : Inst) (xs : List Inst) → Contains (x ∷ xs) x
Contains-head x xs = (0, omega arith, refl)

most_are : most_cells ≡ 67108864
unfolding most_cells
most_are = refl

bounded : (d : Design) (id : CellId) → depth d most_cells id ≤ most_cells
bounded d id = depth-le d most_cells id

falls : (d : Design) → IsValid d → (id : CellId) (inst : Inst) → HasInst d id inst → depth d most_cells inst.of < depth d most_cells id
falls d valid id inst has = depth_falls d most_cells id inst most_are valid has

-- the test finds each cell below
either_true : (a : Bool) → (a || true) ≡ true
either_true true = refl
either_true false = refl

any_true_at : (f : Inst → Bool) (xs : List Inst) (x : Inst) (k : ℕ) → k < length xs → slice_index_or xs k x ≡ x → f x ≡ true → list_any f xs ≡ true
any_true_at f [] x k within is here = absurd (omega arith)
any_true_at f (y ∷ xs) x zero within is here = ap (λ (b : Bool). b || list_any f xs) (ap f is ∙ here)
any_true_at f (y ∷ xs) x (suc k) within is here =
    let rest : list_any f xs ≡ true = any_true_at f xs x k (omega arith) is here in
    ap (λ (b : Bool). f y || b) rest ∙ either_true (f y)

pub same_cell-refl : (a : CellId) → same_cell a a ≡ true
same_cell-refl a = rw (eq-eqb a.lib.0 a.lib.0 refl, eq-eqb a.slot a.slot refl) refl

pub below_found : (d : Design) (rank : CellId → ℕ) → ((id : CellId) (inst : Inst) → HasInst d id inst → rank inst.of < rank id) → {inner outer : CellId} → IsBelow d inner outer → (n : ℕ) → rank outer ≤ n → below_within d n inner outer ≡ true
below_found d rank lower (placed {id} inst has) zero fits = let less : rank inst.of < rank id = lower id inst has in absurd (omega arith)
below_found d rank lower (placed {id} inst has) (suc n) fits =
    any_true_at (λ i. same_cell i.of inst.of || below_within d n inst.of i.of) (insts_at d id) inst has.0 has.1 has.2
    (ap (λ (b : Bool). b || below_within d n inst.of inst.of) (same_cell-refl inst.of))
below_found d rank lower (deeper {inner} {id} inst has below) zero fits = let less : rank inst.of < rank id = lower id inst has in absurd (omega arith)
below_found d rank lower (deeper {inner} {id} inst has below) (suc n) fits =
    let less : rank inst.of < rank id = lower id inst has in
    let there : below_within d n inner inst.of ≡ true = below_found d rank lower below n (omega arith) in
    any_true_at (λ i. same_cell i.of inner || below_within d n inner i.of) (insts_at d id) inst has.0 has.1 has.2
    (ap (λ (b : Bool). same_cell inst.of inner || b) there ∙ either_true (same_cell inst.of inner))

-- what the test finds is below
any_found : (f : Inst → Bool) (xs : List Inst) → list_any f xs ≡ true → (x : Inst) × Contains xs x × (f x ≡ true)
any_found f [] any = let never : false ≡ true = any in cc
any_found f (y ∷ xs) any =
    ⊎_elim
    (λ (here : f y ≡ true). (y, Contains-head y xs, here))
    (λ (later : list_any f xs ≡ true). let more = any_found f xs later in (more.0, Contains-tail y more.0 xs more.1, more.2))
    (or_cases (f y) (list_any f xs) any)

pub is_same_cell : (a b : CellId) → same_cell a b ≡ true → a ≡ b
is_same_cell a b is =
    let both = and_parts (a.lib.0 == b.lib.0) (a.slot == b.slot) is in
    let libs : a.lib.0 ≡ b.lib.0 = eqb-true a.lib.0 b.lib.0 both.0 in
    let slots : a.slot ≡ b.slot = eqb-true a.slot b.slot both.1 in
    λ i. record { lib = record { 0 = libs i }; slot = slots i }

found_is_below : (d : Design) (n : ℕ) (inner outer : CellId) → below_within d n inner outer ≡ true → IsBelow d inner outer
found_is_below d zero inner outer is = let never : false ≡ true = is in cc
found_is_below d (suc n) inner outer is =
    let found = any_found (λ i. same_cell i.of inner || below_within d n inner i.of) (insts_at d outer) is in
    ⊎_elim
    (λ (here : same_cell found.0.of inner ≡ true). subst (λ (c : CellId). IsBelow d c outer) (is_same_cell found.0.of inner here) (placed found.0 found.1))
    (λ (later : below_within d n inner found.0.of ≡ true). deeper found.0 found.1 (found_is_below d n inner found.0.of later))
    (or_cases (same_cell found.0.of inner) (below_within d n inner found.0.of) found.2)

pub below_is_found : (d : Design) (inner outer : CellId) → IsValid d → IsBelow d inner outer → is_below d inner outer ≡ true
below_is_found d inner outer valid below = below_found d (depth d most_cells) (falls d valid) below most_cells (bounded d outer)

pub below_test : (d : Design) (inner outer : CellId) → IsValid d → IsTrue (is_below d inner outer) ↔ IsBelow d inner outer
below_test d inner outer valid = (λ is. found_is_below d most_cells inner outer is, λ below. below_is_found d inner outer valid below)
