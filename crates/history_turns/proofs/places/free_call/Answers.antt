use Rattle.history_turns.proofs.Calling.{free_collects}
use Rattle.history_turns.proofs.places.free_call.Goals as goal

pub returns-in-Begin : goal.returns-in-Begin
returns-in-Begin c r = rw c.in-Begin.is (c.begin_line.ensures r)

pub returns-in-Pin : goal.returns-in-Pin
returns-in-Pin c r = rw c.in-Pin.is (c.pin_line.ensures r)

pub returns-in-PinAt : goal.returns-in-PinAt
returns-in-PinAt c r = rw c.in-PinAt.is (c.pin_at_line.ensures r)

pub returns-in-Collect : goal.returns-in-Collect
returns-in-Collect c r = rw c.in-Collect.is (free_collects c.args.core.now c.collect_line.new.core c.args.caller r c.args.said.now.items c.collect_line.new.said.items c.collect_line.result c.collect_line.ensures)
