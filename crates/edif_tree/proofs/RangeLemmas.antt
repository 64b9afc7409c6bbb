-- Nodes that stand side by side.
use Rattle.std.proofs.Common.{◌≡◌, ◌+◌, ◌-◌, ◌<◌, ◌≤◌, ℕ, zero, suc, [], ◌∷◌, length, take, drop, Some, refl, sym, ap, ◌∙◌, arith}
use Rattle.std.specs.Prelude.{slice_get}
use Rattle.edif_tree.specs.Ranges.{ids_from}
use Rattle.edif_tree.specs.declared.stored.NodeId.{NodeId}

abbrev pub id_of : ℕ → NodeId
id_of n = record { 0 = n }

pub length_ids : (first count : ℕ) → length (ids_from first count) ≡ count
length_ids first zero = refl
length_ids first (suc count) = ap (λ v. suc v) (length_ids (suc first) count)

pub get_id : (first count i : ℕ) → i < count → slice_get (ids_from first count) i ≡ Some (id_of (first + i))
get_id first zero i l = absurd (omega (arith, l))
get_id first (suc count) zero l = let e : first ≡ first + 0 = omega arith in ap (λ v. Some (id_of v)) e
get_id first (suc count) (suc i) l = let e : suc first + i ≡ first + suc i = omega arith in get_id (suc first) count i (omega (arith, l)) ∙ ap (λ v. Some (id_of v)) e

pub take_ids : (first count m : ℕ) → m ≤ count → take m (ids_from first count) ≡ ids_from first m
take_ids first count zero l = refl
take_ids first zero (suc m) l = absurd (omega (arith, l))
take_ids first (suc count) (suc m) l = ap (λ v. id_of first ∷ v) (take_ids (suc first) count m (omega (arith, l)))

pub drop_ids : (first count m : ℕ) → m ≤ count → drop m (ids_from first count) ≡ ids_from (first + m) (count - m)
drop_ids first count zero l =
    let e : first ≡ first + 0 = omega arith in
    let d : count ≡ count - 0 = omega arith in
    ap (λ v. ids_from v count) e ∙ ap (ids_from (first + 0)) d
drop_ids first zero (suc m) l = absurd (omega (arith, l))
drop_ids first (suc count) (suc m) l =
    let e : suc first + m ≡ first + suc m = omega arith in
    let d : count - m ≡ suc count - suc m = omega arith in
    drop_ids (suc first) count m (omega (arith, l)) ∙ (ap (λ v. ids_from v (count - m)) e ∙ ap (ids_from (first + suc m)) d)

-- a range that holds none, and one that holds some
pub ids_none : (first end : ℕ) → end ≤ first → ids_from first (end - first) ≡ []
ids_none first end l = let e : end - first ≡ 0 = omega arith in ap (ids_from first) e

pub ids_first : (first end : ℕ) → first < end → ids_from first (end - first) ≡ id_of first ∷ ids_from (first + 1) (end - (first + 1))
ids_first first end l =
    let e : end - first ≡ suc (end - (first + 1)) = omega arith in
    let s : suc first ≡ first + 1 = omega arith in
    ap (ids_from first) e ∙ ap (λ v. id_of first ∷ ids_from v (end - (first + 1))) s

-- the two parts of a range
pub ids_front : (first end mid : ℕ) → mid ≤ end - first → ids_from first ((first + mid) - first) ≡ take mid (ids_from first (end - first))
ids_front first end mid l =
    let e : (first + mid) - first ≡ mid = omega arith in
    ap (ids_from first) e ∙ sym (take_ids first (end - first) mid l)

pub ids_back : (first end mid : ℕ) → mid ≤ end - first → ids_from (first + mid) (end - (first + mid)) ≡ drop mid (ids_from first (end - first))
ids_back first end mid l =
    let e : end - (first + mid) ≡ (end - first) - mid = omega arith in
    ap (ids_from (first + mid)) e ∙ sym (drop_ids first (end - first) mid l)
