-- The objects of a cell.
use Rattle.std.specs.Prelude.{◌≡◌, ◌⊎◌}
use Rattle.netlist_schema.specs.Types.{CellId, Object}
use Rattle.edit_rules_spec.specs.Objects.{face_object, contents_object}

-- what is seen of it from outside, or what is inside
abbrev pub IsPartOf : CellId → Object → Type 0
IsPartOf id o = (o ≡ face_object id) ⊎ (o ≡ contents_object id)
