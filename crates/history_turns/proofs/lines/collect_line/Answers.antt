use Rattle.history_turns.proofs.Calling.{collect_called}
use Rattle.history_turns.proofs.lines.collect_line.Goals as goal

pub returns-in-Ok : goal.returns-in-Ok
returns-in-Ok c = collect_called c.args.core.now c.collect.new.self c.args.caller c.args.said.now.items c.say_collected.new.out.items c.in-Ok.count c.history_is_legal.ensures.history.legal c.in-Ok.ensures c.in_ok-say_collected-in-Ok.ensures.ok c.args.at c.requires.free c.requires.at
