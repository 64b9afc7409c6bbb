-- The least own bit of each class.
use Rattle.std.specs.Prelude.{◌≡◌, ◌<◌, ◌≤◌, ℕ, List, Option, Some, None, length, option_and_then, slice_get, slice_index_or}
use Rattle.net_classes.specs.Facts.{entry}

-- the first net that is connected with the net of a bit
abbrev pub first_of_bit : List (Option ℕ) → List ℕ → ℕ → Option ℕ
first_of_bit nets firsts bit = option_and_then (slice_get firsts) (entry nets bit)

-- the least bit that has this first net
pub record IsLeastOf (first_at : ℕ → Option ℕ) (first bit : ℕ) : Type 0 where
  pub has : first_at bit ≡ Some first
  pub none_less : (k : ℕ) → first_at k ≡ Some first → bit ≤ k

-- the answer for a bit: none where it has no first net, else the least bit that has the same
abbrev pub IsLeastAnswer : (ℕ → Option ℕ) → Option ℕ → Option ℕ → Type 0
IsLeastAnswer first_at None answer = answer ≡ None
IsLeastAnswer first_at (Some first) answer = (bit : ℕ) × (answer ≡ Some bit) × IsLeastOf first_at first bit

-- of the bits before a number: the least one with this first net, or none
abbrev pub IsSeen : (ℕ → Option ℕ) → ℕ → ℕ → Option ℕ → Type 0
IsSeen first_at number first None = (k : ℕ) → k < number → first_at k ≡ Some first → ⊥
IsSeen first_at number first (Some bit) = (bit < number) × IsLeastOf first_at first bit

-- the same for each first net
abbrev pub AreSeen : (ℕ → Option ℕ) → ℕ → List (Option ℕ) → Type 0
AreSeen first_at number seen = (first : ℕ) → first < length seen → IsSeen first_at number first (slice_index_or seen first None)
