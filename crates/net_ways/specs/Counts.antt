-- How many elements come first.
use Rattle.std.specs.Prelude.{◌≡◌, ◌<◌, ◌≤◌, ℕ, List, Bool, true, false, Some, length, slice_get}

-- so many elements of the list come first, and the others do not
pub record IsCountOf {A : Type 0} (before : A → Bool) (xs : List A) (count : ℕ) : Type 0 where
  pub bound : count ≤ length xs
  pub front : (k : ℕ) (x : A) → k < count → slice_get xs k ≡ Some x → before x ≡ true
  pub back : (k : ℕ) (x : A) → count ≤ k → slice_get xs k ≡ Some x → before x ≡ false
