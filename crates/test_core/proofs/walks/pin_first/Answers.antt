use Rattle.test_core.proofs.walks.pin_first.Goals as goal

pub returns : goal.returns
returns g c = record { is_pin = c.in-Ok.ensures.is_pin; caller_is = c.in-Ok.ensures.caller_is }
