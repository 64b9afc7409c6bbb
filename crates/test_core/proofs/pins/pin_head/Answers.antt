use Rattle.test_core.proofs.PinLemmas.{over_pin}
use Rattle.test_core.proofs.pins.pin_head.Goals as goal

pub returns-clause-held : goal.returns-clause-held
returns-clause-held g c = over_pin c.args.core.now c.pin.new.self c.history_is_legal.ensures.history 0 c.args.held.now c.requires 1 c.in-Ok.pin c.in-Ok.ensures

pub returns-clause-pin : goal.returns-clause-pin
returns-clause-pin g c = record { is_pin = c.in-Ok.ensures.is_pin; caller_is = c.in-Ok.ensures.caller_is }
