-- Strings that stand in one list of bytes, one behind the other.
use Rattle.std.specs.Prelude.{◌≡◌, ◌-◌, ◌≤◌, ℕ, List, [], ◌∷◌, drop, take}

-- the strings that end before these places, the first from this place on
abbrev pub texts_from : List ℕ → ℕ → List ℕ → List (List ℕ)
texts_from bytes first [] = []
texts_from bytes first (end ∷ ends) = take (end - first) (drop first bytes) ∷ texts_from bytes end ends

-- none of these places, from the first on, stands before the one that it follows, and the last is this one
abbrev pub AreEnds : ℕ → List ℕ → ℕ → Type 0
AreEnds first [] last = first ≡ last
AreEnds first (end ∷ ends) last = (first ≤ end) × AreEnds end ends last
