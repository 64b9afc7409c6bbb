use Rattle.std.proofs.Common.{◌≡◌, take}
use Rattle.netlist_schema.specs.Names.{cell_names}
use Rattle.db_version.proofs.names.NameList.of.Given as goal

abbrev pub invariant-loop-cell : goal.invariant-loop-cell
invariant-loop-cell l = l.made ≡ cell_names (take l.cell-index l.cells)
