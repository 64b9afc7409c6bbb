-- Places of instances by their identifiers, one instance and one cell after another.
use Rattle.std.proofs.Common.{◌≡◌, ◌+◌, ◌<◌, ◌≤◌, ℕ, Bool, true, false, cond, List, length, get_or, Option, Some, None, nat_eq, slice_get, refl, sym, ap, subst, ◌∙◌, arith, below_more}
use Rattle.std.specs.Prelude.{IfSome}
use Rattle.std.specs.Cmp.Lexicographic.{pointwise, bytes_decides}
use Rattle.std.specs.Ordering.{is_eq, nat_cmp}
use Rattle.std.specs.FinMap.{nat_cmp-IsAntisymmetric}
use Rattle.std.proofs.lemmas.List.{get_or_default}
use Rattle.std.proofs.lemmas.Option.{slice_get-get_or}
use Rattle.netlist_schema.specs.Types.{CellId, Inst}
use Rattle.netlist_schema.proofs.Objects.{both_are_Equal}
use Rattle.flat_items.specs.Named.{ArePlaces, cell_cmp}
use Rattle.flat_items.specs.Ways.{IsNameFound}

-- an instance with the identifier stands at that place; or none of the first ones has it
abbrev pub IsFoundBelow : List Inst → ℕ → List ℕ → Option ℕ → Type 0
IsFoundBelow insts count name None = (k : ℕ) → k < count → (d : Inst) → (get_or insts k d).name.id ≡ name → ⊥
IsFoundBelow insts count name (Some place) = (inst : Inst) × (slice_get insts place ≡ Some inst) × (inst.name.id ≡ name)

abbrev pub ArePlacesBelow : List Inst → ℕ → (List ℕ → Option ℕ) → Type 0
ArePlacesBelow insts count place = (name : List ℕ) → IsFoundBelow insts count name (place name)

-- one instance more
pub one_more : (insts : List Inst) (i : ℕ) (inst : Inst) (before after : List ℕ → Option ℕ) → i < length insts → inst ≡ get_or insts i inst
    → ((q : List ℕ) → after q ≡ cond (pointwise nat_eq inst.name.id q) (Some i) (before q)) → ArePlacesBelow insts i before → ArePlacesBelow insts (i + 1) after
one_more insts i inst before after within is added known q =
    subst (λ o. IsFoundBelow insts (i + 1) q o) (sym (added q)) (go (pointwise nat_eq inst.name.id q) refl (before q) (known q))
  where
    last : pointwise nat_eq inst.name.id q ≡ false → (d : Inst) → (get_or insts i d).name.id ≡ q → ⊥
    last other d named =
        let here : get_or insts i d ≡ inst = get_or_default insts i d inst within ∙ sym is in
        let same : pointwise nat_eq inst.name.id q ≡ true = (bytes_decides inst.name.id q).1 (ap (λ (v : Inst). v.name.id) (sym here) ∙ named) in
        cc

    go : (b : Bool) → pointwise nat_eq inst.name.id q ≡ b → (o : Option ℕ) → IsFoundBelow insts i q o → IsFoundBelow insts (i + 1) q (cond b (Some i) o)
    go true same o below = (inst, slice_get-get_or insts i inst within ∙ ap Some (sym is), (bytes_decides inst.name.id q).0 same)
    go false other (Some p) below = below
    go false other None below = below_more (λ k. (d : Inst) → (get_or insts k d).name.id ≡ q → ⊥) i below (last other)

-- all instances
pub all_found : (insts : List Inst) (i : ℕ) (place : List ℕ → Option ℕ) → length insts ≤ i → ArePlacesBelow insts i place → ArePlaces insts place
all_found insts i place past known q = go (place q) (known q)
  where
    go : (o : Option ℕ) → IsFoundBelow insts i q o → IsNameFound insts q o
    go (Some p) below = below
    go None below = λ x there named. below there.0 (omega (arith, there.1, past)) x (ap (λ (v : Inst). v.name.id) there.2 ∙ named)

same_cell : (a b : CellId) → is_eq (cell_cmp a b) ≡ true → a ≡ b
same_cell a b e =
    let both = both_are_Equal (nat_cmp a.lib.0 b.lib.0) (nat_cmp a.slot b.slot) e in
    λ i. record { lib = record { 0 = nat_cmp-IsAntisymmetric a.lib.0 b.lib.0 both.0 i }; slot = nat_cmp-IsAntisymmetric a.slot b.slot both.1 i }

-- what is kept of each cell fits it, where what is added for one cell fits that
pub one_cell_more : {T : Type 0} (Fits : CellId → T → Type 0) (cell : CellId) (old new : CellId → Option T) (x : T)
    → ((q : CellId) → new q ≡ cond (is_eq (cell_cmp cell q)) (Some x) (old q)) → Fits cell x → ((q : CellId) → IfSome (old q) (Fits q)) → (q : CellId) → IfSome (new q) (Fits q)
one_cell_more {T} Fits cell old new x added here before q = subst (λ o. IfSome o (Fits q)) (sym (added q)) (go (is_eq (cell_cmp cell q)) refl)
  where
    go : (b : Bool) → is_eq (cell_cmp cell q) ≡ b → IfSome (cond b (Some x) (old q)) (Fits q)
    go true same = subst (λ c. Fits c x) (same_cell cell q same) here
    go false other = before q
