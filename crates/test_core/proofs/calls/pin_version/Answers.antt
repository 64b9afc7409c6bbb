use Rattle.test_core.proofs.Keeping.{keeps_pin_at, is_pinned_at}
use Rattle.test_core.proofs.calls.pin_version.Goals as goal

pub returns-clause-keeps : goal.returns-clause-keeps
returns-clause-keeps c = keeps_pin_at c.args.core.now c.pin_at.new.self c.history_is_legal.ensures.history c.args.caller c.args.version c.pin_at.result c.pin_at.ensures

pub returns-clause-pin : goal.returns-clause-pin
returns-clause-pin c = is_pinned_at c.args.core.now c.pin_at.new.self c.history_is_legal.ensures.history c.args.caller c.args.version c.pin_at.result c.pin_at.ensures
