-- Lines cut from a text.
use Rattle.std.specs.Prelude.{ℕ, List, [], ◌∷◌, if◌then◌else◌}
use Rattle.edif_spelling_spec.specs.Names.{is_empty}

-- the part behind the last line feed: a line where it has bytes
abbrev pub last_line : List ℕ → List (List ℕ)
last_line part = if is_empty part then [] else part ∷ []
