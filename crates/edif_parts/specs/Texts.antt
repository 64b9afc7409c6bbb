-- Forms of one string.
use Rattle.std.specs.Prelude.{◌≡◌, ◌⊎◌}
use Rattle.edif_spec.specs.declared.keyword.Keyword.{Keyword}
use Rattle.edif_spec.specs.declared.keyword.Keyword.TheVariants as keywords

-- a designator, an owner, or a value that is a string
abbrev pub IsTextForm : Keyword → Type 0
IsTextForm k = (k ≡ keywords.Designator) ⊎ ((k ≡ keywords.Owner) ⊎ (k ≡ keywords.String))
