use Rattle.history_turns.proofs.quiet.quiet_line.Goals as goal

pub returns-in-OffPin : goal.returns-in-OffPin
returns-in-OffPin c = rw c.in-OffPin.is (c.off_line.ensures c.args.most)

pub returns-in-InBlock : goal.returns-in-InBlock
returns-in-InBlock c = rw c.in-InBlock.is (c.block_line.ensures c.args.most)
