use Rattle.std.proofs.Common.{◌≡◌, vec_len}
use Rattle.test_db_parts.proofs.tables.in_order.Given as goal

abbrev pub invariant-loop-item : goal.invariant-loop-item
invariant-loop-item l = vec_len l.items ≡ l.item
