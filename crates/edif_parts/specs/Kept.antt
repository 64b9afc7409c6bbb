-- Names, as they are kept.
use Rattle.std.specs.Prelude.{ℕ, List, []}
use Rattle.edif_parts.specs.declared.names.Kept.{Kept}
use Rattle.edif_parts.specs.declared.names.Kept.TheVariants as kept

-- the names, in order, each with its place
abbrev pub kept_names : Kept → List (List ℕ × ℕ)
kept_names (kept.Unopened alloc) = []
kept_names (kept.Few names) = names
kept_names (kept.Many table) = table.value
