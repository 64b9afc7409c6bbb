use Rattle.test_core.proofs.conflicts.overtaken.Goals as goal

pub accepted-pin-requires : goal.accepted-pin-requires
accepted-pin-requires g c = c.try_on_head-tx.ensures.keeps 0 c.try_on_head-before.result.pin c.try_on_head-before.ensures.pin

pub returns-clause-second : goal.returns-clause-second
returns-clause-second g c = c.accepted-pin.ensures.keeps 1 c.try_on_head-tx.result.pin c.try_on_head-tx.ensures.pin
