use Rattle.std.proofs.Common.{◌≡◌, ◌++◌, map, take}
use Rattle.std.specs.Arc.{arc_value}
use Rattle.netlist_schema.specs.Names.{cell_names}
use Rattle.db_version.proofs.names.NameList.add_cells.Given as goal

abbrev pub invariant-loop-cell : goal.invariant-loop-cell
invariant-loop-cell l = l.self ≡ l.initial.self ++ cell_names (map arc_value (take l.cell-index l.cells))
