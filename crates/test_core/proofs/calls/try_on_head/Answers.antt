use Rattle.std.proofs.Common.{◌∙◌, subst, sym}
use Rattle.test_core.specs.Keeps.{IsPinBy}
use Rattle.test_core.proofs.calls.try_on_head.Goals as goal

pub returns-clause-pin : goal.returns-clause-pin
returns-clause-pin g c = subst (IsPinBy _ c.args.caller) (sym (c.run.ensures ∙ c.started-tx.ensures)) c.pin_head-pin.ensures.pin
