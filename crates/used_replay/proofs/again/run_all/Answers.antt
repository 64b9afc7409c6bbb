use Rattle.std.proofs.Common.{ap, ◌∙◌}
use Rattle.edit_cells.specs.State.{State}
use Rattle.used_replay.proofs.Partway.{on_err, op_done, op_partway}
use Rattle.used_replay.proofs.again.run_all.Goals as goal

pub returns-in_err-_reply-clause-partway : goal.returns-in_err-_reply-clause-partway
returns-in_err-_reply-clause-partway g c = on_err c.from_residual.result _
    (op_partway c.args.ops.now c.loop-op.op-index c.op-item.result (g.C.Cells.state c.args.cells.now).design (g.C.Cells.state c.loop-op.cells).design (g.C.Cells.state c.apply_op.new.cells).design
    c.loop-op-test.true c.op-item.is c.loop-op.invariant.1 (ap (λ (s : State). s.design) c.in_err-_reply.ensures))

pub loop-op-preserved : goal.loop-op-preserved
loop-op-preserved g c = (
  c.in_ok-_reply.ensures.base ∙ c.loop-op.invariant.0,
  op_done c.args.ops.now c.loop-op.op-index c.op-item.result (g.C.Cells.state c.args.cells.now).design (g.C.Cells.state c.loop-op.cells).design (g.C.Cells.state c.apply_op.new.cells).design
      c.loop-op-test.true c.op-item.is c.loop-op.invariant.1 c.in_ok-_reply.ensures.design,
)
