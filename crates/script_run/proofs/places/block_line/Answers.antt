use Rattle.script_run.proofs.HeldLines.{op_told}
use Rattle.script_run.proofs.places.block_line.Goals as goal

pub returns-in-Run-clause-comes : goal.returns-in-Run-clause-comes
returns-in-Run-clause-comes g c =
    rw (c.held_after.ensures, c.in-Run.is) (op_told c.args.along.now.db.now c.args.pass.now c.args.out.now.items c.try_op-said.new.out.items c.try_op-said.result c.args.block c.in-Run.op c.try_op-said.new.tx c.requires.stands c.try_op-said.ensures.run c.try_op-said.ensures.said c.try_op-said.ensures.pin)
