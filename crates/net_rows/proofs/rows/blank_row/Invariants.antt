use Rattle.std.proofs.Common.{◌≡◌, length}
use Rattle.net_rows.proofs.rows.blank_row.Given as goal

abbrev pub invariant-loop : goal.invariant-loop
invariant-loop l = length l.row.items ≡ l.counter
