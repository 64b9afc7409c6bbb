use Rattle.test_core.proofs.Keeping.{is_accepted, keeps_accepted}
use Rattle.test_core.proofs.calls.accepted.Goals as goal

pub commit-requires : goal.commit-requires
commit-requires g c = c.requires.is_pin

pub returns-clause-keeps : goal.returns-clause-keeps
returns-clause-keeps g c = keeps_accepted c.args.core.now c.commit.new.self c.history_is_legal.ensures.history c.args.tx c.in-Ok.version c.in-Ok.pin c.in-Ok.ensures

pub returns-clause-pin : goal.returns-clause-pin
returns-clause-pin g c = is_accepted c.args.core.now c.commit.new.self c.history_is_legal.ensures.history c.args.caller c.args.tx c.in-Ok.version c.in-Ok.pin c.requires c.in-Ok.ensures
