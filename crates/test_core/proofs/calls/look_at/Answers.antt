use Rattle.test_core.proofs.calls.look_at.Goals as goal

pub returns : goal.returns
returns c = λ other pin apart is. c.end_pin.ensures other pin apart (c.pin_version.ensures.keeps other pin is)

pub returns-in_err-pin : goal.returns-in_err-pin
returns-in_err-pin c = λ other pin apart is. c.pin_version.ensures.keeps other pin is
