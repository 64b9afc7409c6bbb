use Rattle.test_core.proofs.Keeping.{keeps_others}
use Rattle.test_core.proofs.calls.end_pin.Goals as goal

pub release-requires : goal.release-requires
release-requires c = c.requires.is_pin.live

pub returns : goal.returns
returns c = keeps_others c.args.core.now c.release.new.self c.history_is_legal.ensures.history c.args.caller c.args.pin c.requires c.release.ensures
