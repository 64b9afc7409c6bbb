use Rattle.first_steps.proofs.PinLemmas.{over_commit}
use Rattle.first_steps.proofs.commit.Goals as goal

pub returns-in_err-println-in-Ok-clause-others : goal.returns-in_err-println-in-Ok-clause-others
returns-in_err-println-in-Ok-clause-others c = over_commit c.args.core.now c.commit.new.self c.history_is_legal.ensures.history c.args.tx c.commit.result c.commit.ensures

pub returns-in_err-println-in-Err-clause-others : goal.returns-in_err-println-in-Err-clause-others
returns-in_err-println-in-Err-clause-others c = over_commit c.args.core.now c.commit.new.self c.history_is_legal.ensures.history c.args.tx c.commit.result c.commit.ensures

pub returns-in_ok-println-in-Ok-clause-others : goal.returns-in_ok-println-in-Ok-clause-others
returns-in_ok-println-in-Ok-clause-others c = over_commit c.args.core.now c.commit.new.self c.history_is_legal.ensures.history c.args.tx c.commit.result c.commit.ensures

pub returns-in_ok-println-in-Err-clause-others : goal.returns-in_ok-println-in-Err-clause-others
returns-in_ok-println-in-Err-clause-others c = over_commit c.args.core.now c.commit.new.self c.history_is_legal.ensures.history c.args.tx c.commit.result c.commit.ensures
