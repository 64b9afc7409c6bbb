use Rattle.gen_rounds.proofs.rounds.try_op.Goals as goal

pub returns : goal.returns
returns c = rw c.in_ok-run.was at c.run.follows.holds-at-none
