use Rattle.std.proofs.Common.{◌∙◌, ap}
use Rattle.edit_tx.specs.Facts.{PinFacts}
use Rattle.history_turns.proofs.Again.{one_op_more, one_op_said}
use Rattle.history_turns.proofs.blocks.run_ops.Goals as goal

pub loop-done-preserved : goal.loop-done-preserved
loop-done-preserved c =
    let i = c.loop-done.invariant in
    let op = c.index-ops-done.result in
    let ran = c.in_ok-try_op.ensures.run in
    record {
      ran = one_op_more c.args.ops.now c.loop-done.tx.ops c.try_op.new.tx.ops c.loop-done.done op c.loop-done-test.true c.index-ops-done.is i.ran ran.ops;
      pin = ran.pin ∙ i.pin;
      said = one_op_said c.args.tx.now.pin.design c.loop-done.tx.pin.design c.args.said.now.items c.loop-done.said.items c.try_op.new.said.items c.args.ops.now c.loop-done.tx.ops c.loop-done.done op
          c.loop-done-test.true c.index-ops-done.is (ap (λ (p : PinFacts). p.design) i.pin) i.ran i.said c.in_ok-try_op.ensures.said;
    }
