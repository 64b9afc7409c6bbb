use Rattle.std.proofs.Common.{◌<◌, length, arith}
use Rattle.std.proofs.lemmas.List.Sums.{sum_by-set}
use Rattle.design_model.proofs.LabelLemmas.{AreLabels-set, settled_more}
use Rattle.design_model.proofs.labels.lower_labels.Goals as goal
use Rattle.design_model.proofs.labels.lower_labels.Goals.{then-least-labels, else-least-labels}

pub loop-place-preserved : goal.loop-place-preserved
loop-place-preserved g c =
    let d = g.S.Shown.design c.args.design.now in
    let labels = c.loop-place.labels in
    let least = c.least_label-least.result in
    elim c.if-least-labels.branch [
      | then-least-labels w ↦
          let next = AreLabels-set d c.args.root c.args.nets.now labels c.loop-place.place least
          c.loop-place.invariant.labels c.loop-place-test.true w.if-least-labels.true c.least_label-least.ensures.reached in
          let within : c.loop-place.place < length c.loop-place.labels = omega (arith, c.loop-place.invariant.labels.long) in
          let total = sum_by-set (λ n. n) labels c.loop-place.place least 0 within in
          rw (w.labels-is, w.lowered-is) (record {
            labels = next;
            total = omega (arith, total, w.if-least-labels.true, c.loop-place.invariant.total);
            lowered = λ yes. omega (arith, total, w.if-least-labels.true, c.loop-place.invariant.total);
            settled = λ no. absurd (cc no);
          })
      | else-least-labels w ↦
          rw (w.labels-is, w.lowered-is) (record {
            labels = c.loop-place.invariant.labels;
            total = c.loop-place.invariant.total;
            lowered = c.loop-place.invariant.lowered;
            settled = λ no.
                let kept = c.loop-place.invariant.settled no in (
                  kept.0,
                  settled_more d c.args.root c.args.nets.now labels c.loop-place.place least kept.1 c.least_label-least.ensures.least
                      w.if-least-labels.false,
                );
          })
    ]
