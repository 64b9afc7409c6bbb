-- The last of lent values.
use Rattle.std.proofs.Common.{◌≡◌, ◌-◌, List, [], ◌∷◌, length, refl, ap, ◌∙◌, Some, None, arith, slice_get}
use Rattle.std.specs.List.{last_or}
use Rattle.std.specs.Option.{option_map}
use Rattle.std.specs.Borrow.{Bor}
use Rattle.std.proofs.lemmas.List.{length-map}
use Rattle.std.proofs.lemmas.Option.{slice_get-map}
use Rattle.annot_view.specs.Lent.{lent}

last_some : {A : Type 0} (x : A) (xs : List A) → last_or (Some x) xs ≡ slice_get (x ∷ xs) (length xs)
last_some x [] = refl
last_some x (y ∷ ys) = last_some y ys

-- the last element stands before the end
last_at : {A : Type 0} (xs : List A) → last_or None xs ≡ slice_get xs (length xs - 1)
last_at [] = refl
last_at (x ∷ xs) = let e : length xs ≡ length (x ∷ xs) - 1 = omega arith in last_some x xs ∙ ap (slice_get (x ∷ xs)) e

pub last_lent : {A : Type 0} (xs : List (Bor A)) → last_or None (lent xs) ≡ option_map (λ (x : Bor A). x.now) (slice_get xs (length xs - 1))
last_lent {A} xs =
    last_at (lent xs)
    ∙ (ap (λ n. slice_get (lent xs) (n - 1)) (length-map xs (λ (x : Bor A). x.now)) ∙ slice_get-map (λ (x : Bor A). x.now) xs (length xs - 1))
