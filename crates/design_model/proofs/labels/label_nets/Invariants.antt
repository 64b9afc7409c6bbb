use Rattle.std.proofs.Common.{◌≡◌, ◌<◌, ℕ, length, get_or}
use Rattle.std.specs.Prelude.{sum}
use Rattle.design_model.specs.Labels.{AreLabels}
use Rattle.design_model.proofs.labels.label_nets.Given as goal

abbrev pub invariant-loop-place : goal.invariant-loop-place
invariant-loop-place g l = record {
  long : length l.labels.items ≡ l.place;
  same : (i : ℕ) → i < l.place → get_or l.labels.items i 0 ≡ i;
}

abbrev pub invariant-passes : goal.invariant-passes
invariant-passes g l = AreLabels (g.S.Shown.design l.design) l.root l.nets l.labels.items

abbrev pub decreases-passes : goal.decreases-passes
decreases-passes g l = sum l.labels.items
