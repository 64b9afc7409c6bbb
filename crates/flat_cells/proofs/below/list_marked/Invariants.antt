use Rattle.std.proofs.Common.{◌≡◌, ◌++◌, drop, filter}
use Rattle.flat_cells.specs.Marks.{is_marked}
use Rattle.flat_cells.proofs.below.list_marked.Given as goal

abbrev pub invariant-loop-cell : goal.invariant-loop-cell
invariant-loop-cell l = l.found.items ++ filter (is_marked l.marks) (drop l.cell-index l.cells) ≡ filter (is_marked l.marks) l.cells
