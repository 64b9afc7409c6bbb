use Rattle.std.proofs.Common.{◌≡◌, ◌-◌, suc, arith}
use Rattle.script_run.proofs.Again.{again, again_stops, gives_up}
use Rattle.script_run.proofs.blocks.try_block.Goals as goal

pub returns-then-retries-eq0-clause-tries : goal.returns-then-retries-eq0-clause-tries
returns-then-retries-eq0-clause-tries g c =
    gives_up c.args.along.now.db.now c.args.pass.now c.commit_once.new.pass c.commit_once.new.pass c.args.out.now.items c.commit_once.new.out.items c.args.out.now.items c.args.block c.in-Ok-Some.ops c.requires
    (rw c.in-Ok-Some.field-0-is at c.in-Ok-Some.ensures.commits) c.if-retries-eq0.true

pub returns-in-Ok-clause-tries : goal.returns-in-Ok-clause-tries
returns-in-Ok-clause-tries g c =
    let left : c.args.block.retries ≡ suc (c.args.block.retries - 1) = omega (arith, c.if-retries-eq0.false) in
    again c.args.along.now.db.now c.args.pass.now c.commit_once.new.pass c.begin_again.new.pass c.args.out.now.items c.commit_once.new.out.items c.begin_again.new.out.items c.args.block c.in-Ok-Some.ops c.requires c.commit_once.ensures.on.number
    (rw c.in-Ok-Some.field-0-is at c.in-Ok-Some.ensures.commits) (c.args.block.retries - 1) left c.in-Ok.next c.begin_again.ensures.on (rw c.as_slice.ensures at c.in-Ok.ensures.begins)

pub returns-clause-tries : goal.returns-clause-tries
returns-clause-tries g c =
    let left : c.args.block.retries ≡ suc (c.args.block.retries - 1) = omega (arith, c.if-retries-eq0.false) in
    again_stops c.args.along.now.db.now c.args.pass.now c.commit_once.new.pass c.begin_again.new.pass c.args.out.now.items c.commit_once.new.out.items c.begin_again.new.out.items c.args.block c.in-Ok-Some.ops c.requires c.commit_once.ensures.on.number
    (rw c.in-Ok-Some.field-0-is at c.in-Ok-Some.ensures.commits) (c.args.block.retries - 1) left c.in-Err-begin_again.stop c.in-Err-begin_again.ensures.begins
