use Rattle.script_run.proofs.PinLines.{gone_told, no_version_told, pin_at_full, pin_at_short, pin_at_told}
use Rattle.script_run.proofs.lines.pin_at_line.Goals as goal

pub returns-in-Ok-clause-comes : goal.returns-in-Ok-clause-comes
returns-in-Ok-clause-comes g c =
    rw c.held_after.ensures (pin_at_told c.args.db.now c.args.pass.now c.pin_at.new.pass c.args.out.now.items c.say_pin-said.new.out.items c.requires c.args.version c.say_pin-said.result c.in-Ok.pin c.version.result c.version.ensures c.in-Ok.ensures.answer c.say_pin-said.ensures.ok)

pub returns-in-Err-NoVersion-clause-comes : goal.returns-in-Err-NoVersion-clause-comes
returns-in-Err-NoVersion-clause-comes g c =
    rw c.held_after-in-Err-NoVersion.ensures (no_version_told c.args.db.now c.args.pass.now c.pin_at.new.pass c.args.out.now.items c.say_no_version.new.out.items c.requires c.args.version c.say_no_version.result c.in-Err-NoVersion.head (rw c.in-Err-NoVersion.field-0-is at c.in-Err-NoVersion.ensures.answer) c.say_no_version.ensures.ok)

pub returns-in-Err-Gone-clause-comes : goal.returns-in-Err-Gone-clause-comes
returns-in-Err-Gone-clause-comes g c =
    rw c.held_after-in-Err-Gone.ensures (gone_told c.args.db.now c.args.pass.now c.pin_at.new.pass c.args.out.now.items c.say_gone.new.out.items c.requires c.args.version c.say_gone.result c.in-Err-Gone.least (rw c.in-Err-Gone.field-0-is at c.in-Err-Gone.ensures.answer) c.say_gone.ensures.ok)

pub returns-in-Err-LogFull-clause-comes : goal.returns-in-Err-LogFull-clause-comes
returns-in-Err-LogFull-clause-comes g c =
    rw c.filled.ensures (pin_at_full c.args.db.now c.args.pass.now c.pin_at.new.pass c.args.out.now.items c.say_log_full.new.out.items c.requires c.args.version c.say_log_full.result (rw c.in-Err-LogFull.field-0-is at c.in-Err-LogFull.ensures.answer) c.say_log_full.ensures.ok)

pub returns-in-Err-NoMemory-clause-comes : goal.returns-in-Err-NoMemory-clause-comes
returns-in-Err-NoMemory-clause-comes g c = pin_at_short c.args.db.now c.args.pass.now c.pin_at.new.pass c.args.out.now.items c.args.out.now.items c.requires c.args.version (rw c.in-Err-NoMemory.field-0-is at c.in-Err-NoMemory.ensures.answer)
