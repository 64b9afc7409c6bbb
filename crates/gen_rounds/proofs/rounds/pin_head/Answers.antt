use Rattle.gen_rounds.proofs.rounds.pin_head.Goals as goal

pub unreachable-requires : goal.unreachable-requires
unreachable-requires c = let full = rw c.in-Err-LogFull.field-0-is at c.in-Err-LogFull.ensures in full.full c.requires
