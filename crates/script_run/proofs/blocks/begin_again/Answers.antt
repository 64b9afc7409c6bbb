use Rattle.script_run.proofs.Again.{ran_again, ran_short}
use Rattle.script_run.proofs.blocks.begin_again.Goals as goal

pub returns-in-Ok-run_ops-clause-begins : goal.returns-in-Ok-run_ops-clause-begins
returns-in-Ok-run_ops-clause-begins g c =
    ran_again c.args.along.now.db.now c.args.pass.now c.start_block.new.pass c.args.out.now.items c.start_block.new.out.items c.run_ops.new.out.items c.args.begin.ops.now c.args.begin.retries c.in-Ok.block c.run_ops.new.block c.requires.ready c.start_block.ensures.on
    c.in-Ok.ensures.starts c.run_ops.ensures.pin c.run_ops.ensures.retries c.in-Ok-run_ops.ensures.ops c.in-Ok-run_ops.ensures.said

pub returns-in-Err-run_ops-clause-begins : goal.returns-in-Err-run_ops-clause-begins
returns-in-Err-run_ops-clause-begins g c =
    ran_short c.args.along.now.db.now c.args.pass.now c.start_block.new.pass c.args.out.now.items c.start_block.new.out.items c.run_ops.new.out.items c.args.begin.ops.now c.args.begin.retries c.in-Ok.block c.run_ops.new.block c.requires.ready c.start_block.ensures.on
    c.in-Ok.ensures.starts c.run_ops.ensures.pin
