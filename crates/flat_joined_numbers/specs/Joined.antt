-- The least of the numbers that pairs join.
use Rattle.std.specs.Prelude.{◌≡◌, ◌<◌, ◌≤◌, ◌⊎◌, ℕ, List, length, slice_index}
use Rattle.std.specs.List.{Contains}
use Rattle.flat_spec.specs.Chains.{Chain}
use Rattle.flat_joined_numbers.specs.declared.joined.Pair.{Pair}

-- the pair is of these two numbers
abbrev pub IsPairOf : Pair → ℕ → ℕ → Type 0
IsPairOf pair m n = ((pair.first ≡ m) × (pair.second ≡ n)) ⊎ ((pair.first ≡ n) × (pair.second ≡ m))

-- one of the pairs is of these two
abbrev pub AreJoined : List Pair → ℕ → ℕ → Type 0
AreJoined pairs m n = (pair : Pair) × Contains pairs pair × IsPairOf pair m n

-- pairs lead from the number to the least, and to none that is less
pub record IsLeastJoined (pairs : List Pair) (n least : ℕ) : Type 0 where
  pub reached : Chain (AreJoined pairs) n least
  pub none_less : (k : ℕ) → Chain (AreJoined pairs) n k → least ≤ k

-- for each number below the count stands the least to which pairs lead from it
pub record AreLeastJoined (count : ℕ) (pairs : List Pair) (labels : List ℕ) : Type 0 where
  pub long : length labels ≡ count
  pub each : (n : ℕ) → n < count → IsLeastJoined pairs n (slice_index labels n)

-- both numbers of the pair are below the count
pub record IsWithin (count : ℕ) (pair : Pair) : Type 0 where
  pub first : pair.first < count
  pub second : pair.second < count

-- no label is greater than its own place
abbrev pub LeadDown : List ℕ → Type 0
LeadDown labels = (n : ℕ) → n < length labels → slice_index labels n ≤ n

-- each label is a number to which pairs lead, and which is not greater
pub record AreLabels (pairs : List Pair) (labels : List ℕ) : Type 0 where
  pub down : LeadDown labels
  pub joined : (n : ℕ) → n < length labels → Chain (AreJoined pairs) n (slice_index labels n)

-- no label is greater than it was
pub record AreLower (old new : List ℕ) : Type 0 where
  pub long : length new ≡ length old
  pub each : (n : ℕ) → slice_index new n ≤ slice_index old n

-- the two numbers of the pair have one label
abbrev pub AreSame : List ℕ → Pair → Type 0
AreSame labels pair = slice_index labels pair.first ≡ slice_index labels pair.second
