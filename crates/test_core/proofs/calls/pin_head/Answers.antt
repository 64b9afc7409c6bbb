use Rattle.std.proofs.Common.{Ok}
use Rattle.test_core.proofs.Keeping.{keeps_pin}
use Rattle.test_core.proofs.calls.pin_head.Goals as goal

pub returns-clause-keeps : goal.returns-clause-keeps
returns-clause-keeps g c = keeps_pin c.args.core.now c.pin.new.self c.history_is_legal.ensures.history c.args.caller (Ok c.in-Ok.pin) c.in-Ok.ensures

pub returns-clause-pin : goal.returns-clause-pin
returns-clause-pin g c = record { is_pin = c.in-Ok.ensures.is_pin; caller_is = c.in-Ok.ensures.caller_is }
