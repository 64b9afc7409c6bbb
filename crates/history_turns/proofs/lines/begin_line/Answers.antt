use Rattle.history_turns.proofs.Calling.{begin_called}
use Rattle.history_turns.proofs.lines.begin_line.Goals as goal

pub returns-in_ok-block-in-Ok : goal.returns-in_ok-block-in-Ok
returns-in_ok-block-in-Ok c r = begin_called c.args.core.now c.pin.new.self c.args.caller r c.args.said.now.items c.say_begin.new.out.items c.args.retries c.in-Ok.pin c.version.result c.in_ok-block-in-Ok.block c.version.ensures c.in-Ok.ensures c.in_ok-say_begin-in-Ok.ensures.ok c.in_ok-block-in-Ok.ensures.0 c.in_ok-block-in-Ok.ensures.1
