-- There are fewer copies than a design may have cells.
use Rattle.std.proofs.Common.{◌≡◌, ◌≢◌, ◌<◌, ◌+◌, ◌*◌, ◌^◌, ℕ, suc, true, false, List, [], ◌∷◌, ◌++◌, map, length, refl, sym, ap, subst, inl, inr, arith}
use Rattle.std.specs.Prelude.{nat_eq, nat_le}
use Rattle.std.specs.List.{AllByRecursion, IsDistinct, list_any}
use Rattle.std.proofs.lemmas.Bool.{eqb-true, leb-false, ne_eqb, or_cases, or_parts, true≢false}
use Rattle.std.proofs.lemmas.Map.Steps.{length-le_from_distinct_below}
use Rattle.netlist_schema.specs.Design.{Design}
use Rattle.netlist_schema.specs.Types.{CellId}
use Rattle.netlist_schema.specs.Valid.{IsValid}
use Rattle.flat_spec.proofs.PathLemmas.{slice_get-within}
use Rattle.netlist_schema.proofs.WithCell.{same_id}
use Rattle.edit_rules_spec.proofs.Lists.{Apart}
use Rattle.flat_spec.proofs.ListLemmas.{Member}
use Rattle.uniquify_spec.specs.Copies.{Copy}
use Rattle.uniquify_spec.proofs.CopyLists.{AreNew, later_apart}
use Rattle.uniquify_spec.proofs.NewCells.{lib_of_new}
use Rattle.uniquify_copies.specs.Drafts.{has_no_room}

places_tell : (a b : CellId) → a.slot < 65536 → b.slot < 65536 → a.lib.0 * 65536 + a.slot ≡ b.lib.0 * 65536 + b.slot → a ≡ b
places_tell a b p q same =
    let libs : a.lib.0 ≡ b.lib.0 = omega (arith, p, q, same) in
    let slots : a.slot ≡ b.slot = omega (arith, p, q, same, libs) in
    same_id a b libs slots

all_room : (copies : List Copy) → has_no_room copies ≡ false → AllByRecursion (λ (c : Copy). c.id.slot < 65536) copies
all_room [] none = tt
all_room (c ∷ copies) none =
    let parts = or_parts (nat_le 65536 c.id.slot) (has_no_room copies) none in
    (leb-false 65536 c.id.slot parts.0, all_room copies parts.1)

room_of : (copies : List Copy) → AllByRecursion (λ (c : Copy). c.id.slot < 65536) copies → (m : Copy) → Member copies m → m.id.slot < 65536
room_of [] room m member = absurd member
room_of (c ∷ copies) room m member = elim member [
  | inl e ↦ subst (λ (x : Copy). x.id.slot < 65536) e room.0
  | inr rest ↦ room_of copies room.1 m rest
]

apart : (d : Design) (copies before : List Copy) → AreNew d before copies → AllByRecursion (λ (c : Copy). c.id.slot < 65536) copies → Apart (map (λ (c : Copy). c.id.lib.0 * 65536 + c.id.slot) copies)
apart d [] before new room = tt
apart d (v ∷ ms) before new room =
    (each ms (λ m member same. later_apart d v ms before new m member (places_tell v.id m.id room.0 (room_of ms room.1 m member) same)), apart d ms (before ++ v ∷ []) new.1 room.1)
  where
    each : (ms : List Copy) → ((m : Copy) → Member ms m → v.id.lib.0 * 65536 + v.id.slot ≢ m.id.lib.0 * 65536 + m.id.slot)
        → AllByRecursion (λ y. v.id.lib.0 * 65536 + v.id.slot ≢ y) (map (λ (c : Copy). c.id.lib.0 * 65536 + c.id.slot) ms)
    each [] differ = tt
    each (m ∷ ms) differ = (differ m (inl refl), each ms (λ x member. differ x (inr member)))

distinct : (xs : List ℕ) → Apart xs → IsDistinct nat_eq xs
unfolding IsDistinct
distinct [] apart = tt
distinct (x ∷ xs) apart = (each x xs apart.0, distinct xs apart.1)
  where
    each : (x : ℕ) (xs : List ℕ) → AllByRecursion (λ y. x ≢ y) xs → AllByRecursion (λ y. nat_eq x y ≡ false) xs
    each x [] all = tt
    each x (y ∷ ys) all = (ne_eqb x y all.0, each x ys all.1)

bounded : (d : Design) → IsValid d → (copies before : List Copy) → AreNew d before copies → AllByRecursion (λ (c : Copy). c.id.slot < 65536) copies
    → AllByRecursion (λ n. n < 67108864) (map (λ (c : Copy). c.id.lib.0 * 65536 + c.id.slot) copies)
bounded d valid [] before new room = tt
bounded d valid (m ∷ ms) before new room =
    let lib = slice_get-within d.libs m.id.lib.0 (lib_of_new d before m new.0) in
    let few = valid.limits.libs in
    let slot = room.0 in
    (omega (arith, lib, few, slot), bounded d valid ms (before ++ m ∷ []) new.1 room.1)

below : (xs : List ℕ) (n q : ℕ) → AllByRecursion (λ x. x < n) xs → list_any (nat_eq q) xs ≡ true → q < n
below [] n q all any = absurd (true≢false (sym any))
below (x ∷ xs) n q all any = elim (or_cases (nat_eq q x) (list_any (nat_eq q) xs) any) [
  | inl here ↦ subst (λ y. y < n) (sym (eqb-true q x here)) all.0
  | inr later ↦ below xs n q all.1 later
]

pub few_copies : (d : Design) → IsValid d → (copies : List Copy) → AreNew d [] copies → has_no_room copies ≡ false → length copies < 2 ^ 32
few_copies d valid copies new none =
    let room = all_room copies none in
    let numbers = map (λ (c : Copy). c.id.lib.0 * 65536 + c.id.slot) copies in
    let most = length-le_from_distinct_below numbers 67108864 (distinct numbers (apart d copies [] new room)) (λ q any. below numbers 67108864 q (bounded d valid copies [] new room) any) in
    let same = mapped copies in
    omega (arith, most, same)
  where
    mapped : (cs : List Copy) → length (map (λ (c : Copy). c.id.lib.0 * 65536 + c.id.slot) cs) ≡ length cs
    mapped [] = refl
    mapped (c ∷ cs) = ap suc (mapped cs)
