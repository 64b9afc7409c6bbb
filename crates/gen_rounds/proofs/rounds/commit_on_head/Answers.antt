use Rattle.gen_rounds.proofs.Commits.{has_committed_where, tried_is_head, tried_is_pin}
use Rattle.db_spec.specs.State.{head}
use Rattle.db_core.specs.Story.{state}
use Rattle.gen_rounds.proofs.rounds.commit_on_head.Goals as goal

pub commit-requires-clause-pin : goal.commit-requires-clause-pin
commit-requires-clause-pin c = tried_is_pin c.args.core.now c.args.pin c.args.op c.in-Ok.tx c.try_op.new.tx c.in-Ok.ensures.ok c.in_ok-try_op.ensures c.requires.pin

pub commit-requires-clause-last : goal.commit-requires-clause-last
commit-requires-clause-last c = tried_is_head c.args.pin c.args.op c.in-Ok.tx c.try_op.new.tx (head (state c.args.core.now)) c.in-Ok.ensures.ok c.in_ok-try_op.ensures c.requires.last

pub returns : goal.returns
returns c = has_committed_where c.args.core.now c.commit.new.core c.args.pin c.args.op c.in-Ok.tx c.try_op.new.tx c.commit.result c.in-Ok.ensures.ok c.in_ok-try_op.ensures c.commit.ensures
