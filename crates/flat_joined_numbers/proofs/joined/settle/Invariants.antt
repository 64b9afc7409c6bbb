use Rattle.std.proofs.Common.{◌≡◌, length}
use Rattle.std.specs.Prelude.{sum}
use Rattle.flat_joined_numbers.specs.Joined.{AreLabels}
use Rattle.flat_joined_numbers.proofs.joined.settle.Given as goal

abbrev pub invariant-passes : goal.invariant-passes
invariant-passes l = record {
  labels : AreLabels l.pairs l.labels;
  long : length l.labels ≡ length l.initial.labels;
}

abbrev pub decreases-passes : goal.decreases-passes
decreases-passes l = sum l.labels
