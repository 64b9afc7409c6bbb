-- How many bytes in front are of one kind, where sixteen are looked at together.
use Rattle.std.specs.Prelude.{◌≡◌, ◌≤◌, ◌==◌, ℕ, Bool, true, List, if◌then◌else◌, take}
use Rattle.std.specs.Int.{trailing_zeros, w64}
use Rattle.std.specs.List.{list_all}

-- the place of the lowest bit that is set, or sixteen where none is
abbrev pub first_set : ℕ → ℕ
first_set mask = if mask == 0 then 16 else trailing_zeros w64 mask

-- these are at most sixteen bytes in front, which all pass
abbrev pub IsFront : (ℕ → Bool) → List ℕ → ℕ → Type 0
IsFront passes bytes count = (count ≤ 16) × (list_all passes (take count bytes) ≡ true)
