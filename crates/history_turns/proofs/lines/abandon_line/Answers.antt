use Rattle.history_turns.proofs.Calling.{abandon_called}
use Rattle.history_turns.proofs.lines.abandon_line.Goals as goal

pub returns : goal.returns
returns c r = abandon_called c.args.core.now c.release.new.self c.args.block.tx.pin.caller r c.args.said.now.items c.say_abandoned.new.out.items c.args.block c.abandon.result c.abandon.ensures c.release.ensures c.in_ok-say_abandoned.ensures.ok
