use Rattle.std.proofs.Common.{◌≡◌, ◌<◌, ℕ, length, get_or}
use Rattle.flat_joined_numbers.proofs.joined.numbers.Given as goal

abbrev pub invariant-loop-number : goal.invariant-loop-number
invariant-loop-number l = record {
  long : length l.labels.items ≡ l.number;
  same : (i : ℕ) → i < l.number → get_or l.labels.items i 0 ≡ i;
}
