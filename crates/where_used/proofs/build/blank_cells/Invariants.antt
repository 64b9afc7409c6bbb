use Rattle.std.proofs.Common.{◌≡◌}
use Rattle.where_used.specs.Index.{blank_row}
use Rattle.where_used.proofs.build.blank_cells.Given as goal

abbrev pub invariant-loop : goal.invariant-loop
invariant-loop l = l.cells.items ≡ blank_row l.counter
