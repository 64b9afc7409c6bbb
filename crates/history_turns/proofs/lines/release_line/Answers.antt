use Rattle.history_turns.proofs.Calling.{release_called}
use Rattle.history_turns.proofs.lines.release_line.Goals as goal

pub returns : goal.returns
returns c r = release_called c.args.core.now c.release.new.self c.args.pin.caller r c.args.said.now.items c.say_released.new.out.items c.args.pin c.release.ensures c.in_ok-say_released.ensures.ok
