use Rattle.test_core.proofs.Keeping.{is_back, keeps_back}
use Rattle.test_core.proofs.calls.refused.Goals as goal

pub commit-requires : goal.commit-requires
commit-requires g c = c.requires.is_pin

pub returns-clause-keeps : goal.returns-clause-keeps
returns-clause-keeps g c = keeps_back c.args.core.now c.commit.new.self c.history_is_legal.ensures.history c.args.tx c.in-Err.error c.in-Err.back c.in-Err.ensures

pub returns-clause-back : goal.returns-clause-back
returns-clause-back g c = is_back c.args.core.now c.commit.new.self c.history_is_legal.ensures.history c.args.caller c.args.tx c.in-Err.error c.in-Err.back c.requires c.in-Err.ensures
