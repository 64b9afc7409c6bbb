use Rattle.std.specs.Prelude.{Ok, Err}
use Rattle.db_share.proofs.Opened.{goes_on_twice}
use Rattle.script_held.specs.declared.held.Held.TheVariants as held
use Rattle.script_run.proofs.Again.{further, one_retry_less, under_way}
use Rattle.script_run.proofs.blocks.commit_block.Goals as goal

pub again-init : goal.again-init
again-init g c = under_way c.args.along.now.db.now c.args.pass.now c.args.out.now.items c.args.block c.requires

pub try_block-requires : goal.try_block-requires
try_block-requires g c = c.again.invariant.stands

pub again-preserved : goal.again-preserved
again-preserved g c =
    further c.args.along.now.db.now c.args.pass.now c.again.pass c.try_block.new.pass c.args.out.now.items c.again.out.items c.try_block.new.out.items c.args.block c.again.block c.in-Ok-Some.next c.again.invariant c.try_block.ensures.on
    (rw c.in-Ok-Some.field-0-is at c.in-Ok-Some.ensures.tries)

pub again-smaller : goal.again-smaller
again-smaller g c =
    one_retry_less c.args.along.now.db.now c.again.pass c.try_block.new.pass c.again.out.items c.try_block.new.out.items c.again.block c.in-Ok-Some.next (rw c.in-Ok-Some.field-0-is at c.in-Ok-Some.ensures.tries)

pub returns-in-Ok-None-clause-on : goal.returns-in-Ok-None-clause-on
returns-in-Ok-None-clause-on g c = goes_on_twice c.args.along.now.db.now c.args.pass.now c.again.pass c.try_block.new.pass c.again.invariant.on c.try_block.ensures.on

pub returns-in-Ok-None-clause-comes : goal.returns-in-Ok-None-clause-comes
returns-in-Ok-None-clause-comes g c = c.again.invariant.rest c.try_block.new.pass c.try_block.new.out.items (Ok held.Nothing) ((rw c.in-Ok-None.field-0-is at c.in-Ok-None.ensures.tries), tt)

pub returns-in-Err-clause-on : goal.returns-in-Err-clause-on
returns-in-Err-clause-on g c = goes_on_twice c.args.along.now.db.now c.args.pass.now c.again.pass c.try_block.new.pass c.again.invariant.on c.try_block.ensures.on

pub returns-in-Err-clause-comes : goal.returns-in-Err-clause-comes
returns-in-Err-clause-comes g c = c.again.invariant.rest c.try_block.new.pass c.try_block.new.out.items (Err c.in-Err.stop) c.in-Err.ensures.tries
