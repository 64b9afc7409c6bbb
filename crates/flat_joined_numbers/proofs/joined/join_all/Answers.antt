use Rattle.std.proofs.Common.{◌<◌, ◌≤◌, ◌+◌, ℕ, inl, arith, get_or, refl, sym, subst, ◌∙◌, below_more}
use Rattle.std.specs.Prelude.{sum}
use Rattle.std.proofs.lemmas.List.{get_or_default}
use Rattle.flat_joined_numbers.specs.Joined.{AreSame}
use Rattle.flat_joined_numbers.specs.declared.joined.Pair.{Pair}
use Rattle.flat_joined_numbers.proofs.joined.join_all.Goals as goal
use Rattle.flat_joined_numbers.proofs.joined.join_all.Goals.{then-join, else-join}

pub loop-pair-preserved : goal.loop-pair-preserved
loop-pair-preserved c =
    let inv = c.loop-pair.invariant in
    let none : Pair = record { first = 0; second = 0 } in
    let here : Pair = get_or c.args.pairs.now c.loop-pair.pair-index none in
    let labels = c.join.ensures.labels c.args.pairs.now inv.labels
    (here, (c.loop-pair.pair-index, c.loop-pair-test.true, get_or_default c.args.pairs.now c.loop-pair.pair-index here none c.loop-pair-test.true), inl (refl, refl)) in
    elim c.if-join.branch [
      | then-join w ↦
          let less = c.join.ensures.lowered w.if-join.true in
          rw w.lowered-is (record {
            labels = labels;
            long = c.join.ensures.long ∙ inv.long;
            total = omega (arith, less, inv.total);
            lowered = λ yes. omega (arith, less, inv.total);
            settled = λ no. absurd (cc no);
          })
      | else-join w ↦
          let same = c.join.ensures.unchanged w.if-join.false in
          rw w.lowered-is (record {
            labels = labels;
            long = c.join.ensures.long ∙ inv.long;
            total = subst (λ v. sum v ≤ sum c.args.labels.now) (sym same) inv.total;
            lowered = λ yes. subst (λ v. sum v < sum c.args.labels.now) (sym same) (inv.lowered yes);
            settled = λ no.
                let kept = inv.settled no in (
                  same ∙ kept.0,
                  subst (λ v. (k : ℕ) → k < c.loop-pair.pair-index + 1 → (d : Pair) → AreSame v (get_or c.args.pairs.now k d)) (sym same)
                      (below_more (λ k. (d : Pair) → AreSame c.loop-pair.labels (get_or c.args.pairs.now k d)) c.loop-pair.pair-index (kept.1)
                      (λ d.
                      subst (λ (v : Pair). AreSame c.loop-pair.labels v) (sym (get_or_default c.args.pairs.now c.loop-pair.pair-index d none c.loop-pair-test.true))
                      (c.join.ensures.same w.if-join.false))),
                );
          })
    ]
