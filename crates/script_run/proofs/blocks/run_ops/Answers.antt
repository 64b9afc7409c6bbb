use Rattle.std.proofs.Common.{◌∙◌, ap}
use Rattle.edit_tx.specs.Facts.{PinFacts}
use Rattle.script_run.proofs.Again.{one_op_more, one_op_said}
use Rattle.script_run.proofs.blocks.run_ops.Goals as goal

pub loop-done-preserved : goal.loop-done-preserved
loop-done-preserved g c =
    let i = c.loop-done.invariant in
    let op = c.index-ops-done.result in
    record {
      ran = one_op_more c.args.ops.now c.loop-done.block.tx.ops c.try_op.new.tx.ops c.loop-done.done op c.loop-done-test.true c.index-ops-done.is i.ran c.in-Ok.ensures.run.ops;
      pin = c.try_op.ensures.pin ∙ i.pin;
      retries = i.retries;
      said = one_op_said c.args.block.now.tx.pin.design c.loop-done.block.tx.pin.design c.args.out.now.items c.loop-done.out.items c.try_op.new.out.items c.args.ops.now c.loop-done.block.tx.ops c.loop-done.done op
          c.loop-done-test.true c.index-ops-done.is (ap (λ (p : PinFacts). p.design) i.pin) i.ran i.said c.in-Ok.ensures.said;
    }
