use Rattle.history_turns.proofs.Calling.{block_ended}
use Rattle.history_turns.proofs.places.end_call.Goals as goal

pub returns-in-InBlock : goal.returns-in-InBlock
returns-in-InBlock c r text = rw c.in-InBlock.is (block_ended c.args.core.now c.release-in-InBlock.new.self c.args.caller r text c.in-InBlock.block c.abandon.result c.abandon.ensures (rw c.in-InBlock.is at c.requires.at) c.release-in-InBlock.ensures)
