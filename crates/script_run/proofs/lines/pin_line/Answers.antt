use Rattle.script_run.proofs.PinLines.{pin_full, pin_short, pin_told}
use Rattle.script_run.proofs.lines.pin_line.Goals as goal

pub returns-in-Ok-clause-comes : goal.returns-in-Ok-clause-comes
returns-in-Ok-clause-comes g c =
    rw c.held_after.ensures (pin_told c.args.db.now c.args.pass.now c.pin.new.pass c.args.out.now.items c.say_pin-said.new.out.items c.requires c.say_pin-said.result c.in-Ok.pin c.version.result c.version.ensures c.in-Ok.ensures.answer c.say_pin-said.ensures.ok)

pub returns-in-Err-LogFull-clause-comes : goal.returns-in-Err-LogFull-clause-comes
returns-in-Err-LogFull-clause-comes g c =
    rw c.filled.ensures (pin_full c.args.db.now c.args.pass.now c.pin.new.pass c.args.out.now.items c.say_log_full.new.out.items c.requires c.say_log_full.result (rw c.in-Err-LogFull.field-0-is at c.in-Err-LogFull.ensures.answer) c.say_log_full.ensures.ok)

pub returns-in-Err-NoMemory-clause-comes : goal.returns-in-Err-NoMemory-clause-comes
returns-in-Err-NoMemory-clause-comes g c = pin_short c.args.db.now c.args.pass.now c.pin.new.pass c.args.out.now.items c.args.out.now.items c.requires (rw c.in-Err-NoMemory.field-0-is at c.in-Err-NoMemory.ensures.answer)
