use Rattle.std.proofs.Common.{◌≡◌, length, false}
use Rattle.std.specs.List.{All}
use Rattle.flat_cells.proofs.marks.blank_row.Given as goal

abbrev pub invariant-loop : goal.invariant-loop
invariant-loop l = (length l.row.items ≡ l.counter) × All (λ mark. mark ≡ false) l.row.items
