-- Lists by numbers.
use Rattle.std.specs.Prelude.{◌≡◌, ◌<◌, ℕ, List, [], ◌∷◌, ◌++◌, Bool, Option, Some, None, filter, length, set, slice_get, unwrap_or}

-- the element is added behind those of the list with that number
abbrev pub IsAdded : {A : Type 0} → ℕ → A → List (List A) → List (List A) → Type 0
IsAdded number x old new = new ≡ set old number (unwrap_or (slice_get old number) [] ++ x ∷ [])

-- where there is a number
abbrev pub IsPut : {A : Type 0} → Option ℕ → A → List (List A) → List (List A) → Type 0
IsPut None x old new = new ≡ old
IsPut (Some number) x old new = IsAdded number x old new

-- for each of so many numbers those of the elements that pass its test, in order
pub record AreParted {A : Type 0} (test : ℕ → A → Bool) (count : ℕ) (xs : List A) (lists : List (List A)) : Type 0 where
  pub long : length lists ≡ count
  pub each : (f : ℕ) → f < count → slice_get lists f ≡ Some (filter (test f) xs)
