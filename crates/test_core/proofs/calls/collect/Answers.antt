use Rattle.test_core.proofs.Keeping.{keeps_collect}
use Rattle.test_core.proofs.calls.collect.Goals as goal

pub returns : goal.returns
returns c = keeps_collect c.args.core.now c.collect.new.self c.history_is_legal.ensures.history c.args.caller c.collect.result c.collect.ensures
