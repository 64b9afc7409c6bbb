use Rattle.script_run.proofs.PinLines.{begin_full, begin_short, begun, begun_broken}
use Rattle.script_run.proofs.lines.start_block.Goals as goal

pub returns-in-Err-LogFull-clause-starts : goal.returns-in-Err-LogFull-clause-starts
returns-in-Err-LogFull-clause-starts g c =
    rw c.filled.ensures (begin_full c.args.along.now.db.now c.args.pass.now c.pin.new.pass c.args.out.now.items c.say_log_full.new.out.items c.requires c.args.retries c.say_log_full.result (rw c.in-Err-LogFull.field-0-is at c.in-Err-LogFull.ensures.answer) c.say_log_full.ensures.ok)

pub returns-in-Err-NoMemory-clause-starts : goal.returns-in-Err-NoMemory-clause-starts
returns-in-Err-NoMemory-clause-starts g c = begin_short c.args.along.now.db.now c.args.pass.now c.pin.new.pass c.args.out.now.items c.args.out.now.items c.requires c.args.retries (rw c.in-Err-NoMemory.field-0-is at c.in-Err-NoMemory.ensures.answer)

pub returns-in_default-clause-starts : goal.returns-in_default-clause-starts
returns-in_default-clause-starts g c = begun_broken c.args.along.now.db.now c.args.pass.now c.pin.new.pass c.args.out.now.items c.say_begin.new.out.items c.requires c.args.retries c.in-Ok.pin c.in-Ok.ensures.answer

pub returns-in-Ok-start-clause-starts : goal.returns-in-Ok-start-clause-starts
returns-in-Ok-start-clause-starts g c =
    begun c.args.along.now.db.now c.args.pass.now c.pin.new.pass c.args.out.now.items c.say_begin.new.out.items c.requires c.args.retries c.in-Ok.pin c.version.result c.in-Ok-start.tx c.args.first c.version.ensures c.in-Ok.ensures.answer c.in-Ok-say_begin.ensures.ok c.in-Ok-start.ensures.ok

pub returns-in-Err-clause-starts : goal.returns-in-Err-clause-starts
returns-in-Err-clause-starts g c =
    rw c.in-Err.ensures.err (begun_broken c.args.along.now.db.now c.args.pass.now c.pin.new.pass c.args.out.now.items c.say_begin.new.out.items c.requires c.args.retries c.in-Ok.pin c.in-Ok.ensures.answer)
