use Rattle.history_turns.proofs.Calling.{pin_called}
use Rattle.history_turns.proofs.lines.pin_line.Goals as goal

pub returns-in_ok-say_pin-in-Ok : goal.returns-in_ok-say_pin-in-Ok
returns-in_ok-say_pin-in-Ok c r = pin_called c.args.core.now c.pin.new.self c.args.caller r c.args.said.now.items c.say_pin.new.out.items c.in-Ok.pin c.version.result c.version.ensures c.in-Ok.ensures c.in_ok-say_pin-in-Ok.ensures.ok
