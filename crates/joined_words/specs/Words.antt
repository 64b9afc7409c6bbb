-- Words behind one another.
use Rattle.std.specs.Prelude.{ℕ, List, [], ◌∷◌, ◌++◌}
use Rattle.std.specs.List.{flat_map}

-- each word with a byte behind it
abbrev pub ended : ℕ → List (List ℕ) → List ℕ
ended byte words = flat_map (λ word. word ++ byte ∷ []) words
