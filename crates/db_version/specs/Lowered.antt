-- Names in lower case.
use Rattle.std.specs.Prelude.{◌≡◌, ℕ, List, map}
use Rattle.std.specs.Char.{to_ascii_lowercase}
use Rattle.std.specs.List.{list_any}
use Rattle.edit_rules_spec.specs.Find.{is_name}

abbrev pub lower : List ℕ → List ℕ
lower name = map to_ascii_lowercase name

-- the second names are the first ones in lower case, in whatever order
abbrev pub AreLowered : List (List ℕ) → List (List ℕ) → Type 0
AreLowered names lowered = (name : List ℕ) → list_any (is_name name) lowered ≡ list_any (is_name name) (map lower names)
