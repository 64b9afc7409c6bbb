use Rattle.test_core.proofs.PinLemmas.{given_back, over_commit}
use Rattle.test_core.proofs.pins.commit.Goals as goal

pub commit-requires : goal.commit-requires
commit-requires g c = c.requires.pin.is_pin

pub returns-clause-held : goal.returns-clause-held
returns-clause-held g c = over_commit c.args.core.now c.commit.new.self c.history_is_legal.ensures.history 0 c.args.held.now c.requires.held c.args.tx c.in-Ok.field-0-0 c.in-Ok.pin c.in-Ok.ensures

pub returns-clause-pin : goal.returns-clause-pin
returns-clause-pin g c = given_back c.args.core.now c.commit.new.self c.history_is_legal.ensures.history 1 c.args.tx c.in-Ok.field-0-0 c.in-Ok.pin c.requires.pin c.in-Ok.ensures
