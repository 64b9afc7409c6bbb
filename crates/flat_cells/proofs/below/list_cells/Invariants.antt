use Rattle.std.proofs.Common.{◌≡◌}
use Rattle.flat_cells.specs.Below.{cells_upto}
use Rattle.flat_cells.proofs.below.list_cells.Given as goal

abbrev pub invariant-loop-lib : goal.invariant-loop-lib
invariant-loop-lib g l = l.cells.items ≡ cells_upto (g.S.Shown.design l.design) l.lib
