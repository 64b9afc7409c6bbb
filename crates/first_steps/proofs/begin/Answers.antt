use Rattle.first_steps.proofs.PinLemmas.{over_pin}
use Rattle.first_steps.proofs.begin.Goals as goal

pub returns-in-Ok-clause-others : goal.returns-in-Ok-clause-others
returns-in-Ok-clause-others c = over_pin c.args.core.now c.pin.new.self c.history_is_legal.ensures.history c.args.caller c.pin.result c.pin.ensures

pub returns-clause-others : goal.returns-clause-others
returns-clause-others c = over_pin c.args.core.now c.pin.new.self c.history_is_legal.ensures.history c.args.caller c.pin.result c.pin.ensures
