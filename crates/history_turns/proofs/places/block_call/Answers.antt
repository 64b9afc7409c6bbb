use Rattle.history_turns.proofs.Calling.{called_by, cut_off_commit}
use Rattle.history_turns.proofs.places.block_call.Goals as goal

pub returns-then-asked : goal.returns-then-asked
returns-then-asked c = rw c.in-Commit.is (rw c.if-asked.true (cut_off_commit c.args.core.now c.cut_off.new.core c.args.asked.caller c.args.block c.abandon.result c.args.said.now.items c.cut_off.new.said.items _ c.abandon.ensures c.requires.pin c.in_ok-cut_off-in-Commit.ensures))

pub returns-in_ok-abandon_line-in-Abandon : goal.returns-in_ok-abandon_line-in-Abandon
returns-in_ok-abandon_line-in-Abandon c = rw c.in-Abandon.is (called_by c.args.core.now c.abandon_line.new.core c.args.block.tx.pin.caller c.args.asked.caller c.args.asked.release _ _ c.args.said.now.items c.abandon_line.new.said.items _ c.requires.pin.caller_is (c.in_ok-abandon_line-in-Abandon.ensures c.args.asked.release))
