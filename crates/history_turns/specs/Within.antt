-- What a caller says as long as it has said no more than so many bytes.
use Rattle.std.specs.Prelude.{◌≡◌, ◌≤◌, ◌<◌, ℕ, Bool, true, false, List, ◌++◌, length}

-- The text was said behind what was said before, and all is at most so many bytes; or it would be more.
abbrev pub IsSaid : List ℕ → List ℕ → ℕ → List ℕ → Bool → Type 0
IsSaid before text most after true = (after ≡ before ++ text) × (length after ≤ most)
IsSaid before text most after false = most < length (before ++ text)
