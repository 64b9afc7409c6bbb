use Rattle.history_turns.proofs.Calling.{called_by, cut_off_pin}
use Rattle.history_turns.proofs.places.pin_call.Goals as goal

pub returns-then-release : goal.returns-then-release
returns-then-release c = rw c.in-Collect.is (rw c.if-release.true (cut_off_pin c.args.core.now c.cut_off.new.core c.args.caller c.args.pin c.args.said.now.items c.cut_off.new.said.items _ c.requires.pin c.in_ok-cut_off-in-Collect.ensures))

pub returns-in_ok-release_line-in-Release : goal.returns-in_ok-release_line-in-Release
returns-in_ok-release_line-in-Release c = rw c.in-Release.is (called_by c.args.core.now c.release_line.new.core c.args.pin.caller c.args.caller c.args.release _ _ c.args.said.now.items c.release_line.new.said.items _ c.requires.pin.caller_is (c.in_ok-release_line-in-Release.ensures c.args.release))
