use Rattle.history_turns.proofs.Calling.{gone_called, no_version_called, pin_at_called}
use Rattle.history_turns.proofs.lines.pin_at_line.Goals as goal

pub returns-in_ok-say_pin-in-Ok : goal.returns-in_ok-say_pin-in-Ok
returns-in_ok-say_pin-in-Ok c r = pin_at_called c.args.core.now c.pin_at.new.self c.args.caller r c.args.said.now.items c.say_pin.new.out.items c.args.version c.in-Ok.pin c.version.result c.version.ensures c.in-Ok.ensures c.in_ok-say_pin-in-Ok.ensures.ok

pub returns-in_ok-say_no_version-in-Err-NoVersion : goal.returns-in_ok-say_no_version-in-Err-NoVersion
returns-in_ok-say_no_version-in-Err-NoVersion c r = no_version_called c.args.core.now c.pin_at.new.self c.args.caller r c.args.said.now.items c.say_no_version.new.out.items c.args.version c.in-Err-NoVersion.head (rw c.in-Err-NoVersion.field-0-is at c.in-Err-NoVersion.ensures) c.in_ok-say_no_version-in-Err-NoVersion.ensures.ok

pub returns-in_ok-say_gone-in-Err-Gone : goal.returns-in_ok-say_gone-in-Err-Gone
returns-in_ok-say_gone-in-Err-Gone c r = gone_called c.args.core.now c.pin_at.new.self c.args.caller r c.args.said.now.items c.say_gone.new.out.items c.args.version c.in-Err-Gone.least (rw c.in-Err-Gone.field-0-is at c.in-Err-Gone.ensures) c.in_ok-say_gone-in-Err-Gone.ensures.ok
