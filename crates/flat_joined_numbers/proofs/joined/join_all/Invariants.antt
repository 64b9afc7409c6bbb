use Rattle.std.proofs.Common.{◌≡◌, ◌<◌, ◌≤◌, ℕ, true, false, length, get_or}
use Rattle.std.specs.Prelude.{sum}
use Rattle.flat_joined_numbers.specs.Joined.{AreLabels, AreSame}
use Rattle.flat_joined_numbers.specs.declared.joined.Pair.{Pair}
use Rattle.flat_joined_numbers.proofs.joined.join_all.Given as goal

abbrev pub invariant-loop-pair : goal.invariant-loop-pair
invariant-loop-pair l = record {
  labels : AreLabels l.pairs l.labels;
  long : length l.labels ≡ length l.initial.labels;
  total : sum l.labels ≤ sum l.initial.labels;
  lowered : l.lowered ≡ true → sum l.labels < sum l.initial.labels;
  settled : l.lowered ≡ false → (l.labels ≡ l.initial.labels) × ((k : ℕ) → k < l.pair-index → (d : Pair) → AreSame l.labels (get_or l.pairs k d));
}
