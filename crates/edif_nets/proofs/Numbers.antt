-- Numbers that differ, and what they are numbers of.
use Rattle.std.proofs.Common.{◌≡◌, ◌≢◌, ℕ, List, map, length, get_or, eqb, ap, sym, ◌∙◌, arith}
use Rattle.std.specs.Prelude.{Result, Ok, Err, IfOk}
use Rattle.std.specs.List.{AllPairs}
use Rattle.netlist_schema.specs.Names.{AreDistinct}
use Rattle.std.specs.List.Sorted.{IsPermutation, IsStrictlyIncreasing}
use Rattle.std.proofs.lemmas.Bool.Decides.{Decides-eqb, same_from_decides}
use Rattle.std.proofs.lemmas.List.{get_or-map, length-map}
use Rattle.std.proofs.lemmas.List.Kept.{AllPairs-from_increasing}
use Rattle.std.proofs.lemmas.List.Sorted.{IsPermutation-sym}
use Rattle.std.proofs.lemmas.Map.Keys.{IsDistinct-IsPermutation}
use Rattle.std.proofs.lemmas.Map.Made.{AllPairs-from_IsDistinct, IsDistinct-from_AllPairs}

-- what holds of a value that is answered holds in a weaker form
pub if_ok_weaker : {T E : Type 0} {P Q : T → Type 0} (r : Result T E) → ((x : T) → P x → Q x) → IfOk r P → IfOk r Q
if_ok_weaker (Ok x) f h = f x h
if_ok_weaker (Err e) f h = tt

flips : (x y : ℕ) → eqb x y ≡ eqb y x
flips x y = same_from_decides (eqb x y) (eqb y x) (Decides-eqb x y) (let d = Decides-eqb y x in (λ e. sym (d.0 e), λ e. d.1 (sym e)))

-- numbers differ that ascend in another order
pub differ_by : (xs ys : List ℕ) → IsPermutation xs ys → IsStrictlyIncreasing ys → AllPairs (λ x y. x ≢ y) xs
differ_by xs ys p up =
    let above = AllPairs-from_increasing ys up in
    let apart : AllPairs (λ x y. x ≢ y) ys = λ i j d l m e. (let h = above i j d l m in omega (arith, h, e)) in
    AllPairs-from_IsDistinct {eq = eqb} Decides-eqb xs (IsDistinct-IsPermutation eqb flips ys xs (IsPermutation-sym xs ys p) (IsDistinct-from_AllPairs {eq = eqb} Decides-eqb ys apart))

-- what has different numbers is different
pub distinct_by : {A : Type 0} (key : A → ℕ) (xs : List A) → AreDistinct (map key xs) → AreDistinct xs
distinct_by key xs h = λ i j d l m e.
    let n : length (map key xs) ≡ length xs = length-map xs key in
    let a : get_or (map key xs) i (key d) ≡ key (get_or xs i d) = get_or-map key xs i d (key d) (omega (arith, l, m)) in
    let b : get_or (map key xs) j (key d) ≡ key (get_or xs j d) = get_or-map key xs j d (key d) m in
    h i j (key d) l (omega (arith, n, m)) (a ∙ (ap key e ∙ sym b))
