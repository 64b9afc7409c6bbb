use Rattle.history_turns.proofs.Calling.{off_collects}
use Rattle.history_turns.proofs.places.off_call.Goals as goal

pub returns-in-Collect : goal.returns-in-Collect
returns-in-Collect c r = rw c.in-Collect.is (off_collects c.args.core.now c.collect_line.new.core c.args.caller r c.args.said.now.items c.collect_line.new.said.items c.collect_line.result c.collect_line.ensures)
