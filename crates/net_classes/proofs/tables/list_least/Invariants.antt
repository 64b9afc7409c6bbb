use Rattle.std.proofs.Common.{◌≡◌, ◌<◌, ℕ, length, get_or, None}
use Rattle.net_classes.specs.LeastBits.{AreSeen, IsLeastAnswer, first_of_bit}
use Rattle.net_classes.proofs.tables.list_least.Given as goal

abbrev pub invariant-loop-number : goal.invariant-loop-number
invariant-loop-number l = record {
  wide : length l.seen ≡ length l.fn.firsts;
  seen : AreSeen (first_of_bit l.fn.own l.fn.firsts) l.number l.seen;
  long : length l.least.items ≡ l.number;
  least : (bit : ℕ) → bit < l.number → IsLeastAnswer (first_of_bit l.fn.own l.fn.firsts) (first_of_bit l.fn.own l.fn.firsts bit) (get_or l.least.items bit None);
}
