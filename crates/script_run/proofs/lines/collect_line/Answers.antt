use Rattle.script_run.proofs.HeldLines.{collect_full, collect_short, collect_told}
use Rattle.script_run.proofs.lines.collect_line.Goals as goal

pub returns-in-Ok-clause-comes : goal.returns-in-Ok-clause-comes
returns-in-Ok-clause-comes g c =
    rw c.held_after.ensures (collect_told c.args.db.now c.args.pass.now c.collect.new.pass c.args.out.now.items c.say_collected.new.out.items c.args.held c.requires.no_block c.requires.stands c.say_collected.result c.in-Ok.count c.in-Ok.ensures.answer c.say_collected.ensures.ok)

pub returns-in-Err-LogFull-clause-comes : goal.returns-in-Err-LogFull-clause-comes
returns-in-Err-LogFull-clause-comes g c =
    rw c.filled.ensures (collect_full c.args.db.now c.args.pass.now c.collect.new.pass c.args.out.now.items c.say_log_full.new.out.items c.args.held c.requires.no_block c.requires.stands c.say_log_full.result (rw c.in-Err-LogFull.field-0-is at c.in-Err-LogFull.ensures.answer) c.say_log_full.ensures.ok)

pub returns-in-Err-NoMemory-clause-comes : goal.returns-in-Err-NoMemory-clause-comes
returns-in-Err-NoMemory-clause-comes g c = collect_short c.args.db.now c.args.pass.now c.collect.new.pass c.args.out.now.items c.args.out.now.items c.args.held c.requires.no_block c.requires.stands (rw c.in-Err-NoMemory.field-0-is at c.in-Err-NoMemory.ensures.answer)
