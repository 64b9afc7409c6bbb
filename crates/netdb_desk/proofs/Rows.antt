-- Places of a list, at its end and past it.
use Rattle.std.proofs.Common.{◌≡◌, ◌≤◌, ℕ, List, [], ◌∷◌, length, zero, suc, refl, sym, ap, subst, arith}
use Rattle.std.specs.Prelude.{Option, None, Some, set, slice_get}

-- there is nothing past the end
pub get_past : {X : Type 0} (xs : List X) (i : ℕ) → length xs ≤ i → slice_get xs i ≡ None
get_past [] i past = refl
get_past (x ∷ xs) zero past = absurd (omega (arith, past))
get_past (x ∷ xs) (suc i) past = get_past xs i (omega (arith, past))

-- what stands at a place, put there again
abbrev some_or : {X : Type 0} → X → Option X → X
some_or d None = d
some_or d (Some x) = x

some_is : {X : Type 0} (x y : X) → Some x ≡ Some y → x ≡ y
some_is x y e = ap (some_or x) e

pub set_same : {X : Type 0} (xs : List X) (i : ℕ) (x : X) → slice_get xs i ≡ Some x → set xs i x ≡ xs
set_same [] i x at = refl
set_same (y ∷ ys) zero x at = ap (λ z. z ∷ ys) (sym (some_is y x at))
set_same (y ∷ ys) (suc i) x at = ap (λ l. y ∷ l) (set_same ys i x at)

-- where nothing stands, nothing is put
abbrev IsThere : {X : Type 0} → Option X → Type 0
IsThere None = ⊥
IsThere (Some x) = Unit {0}

pub set_absent : {X : Type 0} (xs : List X) (i : ℕ) (x : X) → slice_get xs i ≡ None → set xs i x ≡ xs
set_absent [] i x at = refl
set_absent (y ∷ ys) zero x at = absurd (subst IsThere at tt)
set_absent (y ∷ ys) (suc i) x at = ap (λ l. y ∷ l) (set_absent ys i x at)
