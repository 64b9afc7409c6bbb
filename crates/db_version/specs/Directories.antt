-- What the fields of a directory keep.
use Rattle.std.specs.Prelude.{◌≡◌, ◌≤◌, length}
use Rattle.std.specs.Arc.{arc_value}
use Rattle.std.specs.List.{flat_map}
use Rattle.netlist_schema.specs.declared.limits.TheConstants.{MOST_CELLS}
use Rattle.db_version.specs.declared.directory.Directory.TheInside.{Inside}

-- the names of all parts are counted, and few
pub record IsDirectory (directory : Inside) : Type 0 where
  pub counted : directory.count ≡ length (flat_map arc_value directory.parts.items)
  pub few : directory.count ≤ MOST_CELLS
