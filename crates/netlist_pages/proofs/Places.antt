-- What stands at a place of a list.
use Rattle.std.proofs.Common.{◌≡◌, ◌+◌, ◌<◌, ℕ, zero, suc, List, [], ◌∷◌, ◌++◌, length, Some, slice_get, refl, ap, ◌∙◌, arith}

pub get_there : {A : Type 0} (xs : List A) (i : ℕ) → i < length xs → (x : A) × (slice_get xs i ≡ Some x)
get_there [] i within = absurd (omega arith)
get_there (x ∷ xs) zero within = (x, refl)
get_there (x ∷ xs) (suc i) within = get_there xs i (omega arith)

pub get_front : {A : Type 0} (xs ys : List A) (i : ℕ) → i < length xs → slice_get (xs ++ ys) i ≡ slice_get xs i
get_front [] ys i h = absurd (omega (arith, h))
get_front (x ∷ xs) ys zero h = refl
get_front (x ∷ xs) ys (suc i) h = get_front xs ys i (omega (arith, h))

pub get_behind : {A : Type 0} (xs ys : List A) (i : ℕ) → slice_get (xs ++ ys) (length xs + i) ≡ slice_get ys i
get_behind [] ys i = ap (slice_get ys) (omega arith)
get_behind (x ∷ xs) ys i =
    let step : length (x ∷ xs) + i ≡ suc (length xs + i) = omega arith in
    ap (slice_get ((x ∷ xs) ++ ys)) step ∙ get_behind xs ys i
