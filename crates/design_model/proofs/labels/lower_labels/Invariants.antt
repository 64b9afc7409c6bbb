use Rattle.std.proofs.Common.{◌≡◌, ◌<◌, ◌≤◌, ℕ, true, false}
use Rattle.std.specs.Prelude.{sum}
use Rattle.design_model.specs.Labels.{AreLabels, IsSettledAt}
use Rattle.design_model.proofs.labels.lower_labels.Given as goal

abbrev pub invariant-loop-place : goal.invariant-loop-place
invariant-loop-place g l = record {
  labels : AreLabels (g.S.Shown.design l.design) l.root l.nets l.labels;
  total : sum l.labels ≤ sum l.initial.labels;
  lowered : l.lowered ≡ true → sum l.labels < sum l.initial.labels;
  settled : l.lowered ≡ false → (l.labels ≡ l.initial.labels) × ((i : ℕ) → i < l.place → IsSettledAt (g.S.Shown.design l.design) l.root l.nets l.labels i);
}
