use Rattle.test_share.specs.Callers.{GoesTo}
use Rattle.test_share.proofs.many.go_rounds.Given as goal

-- the pass is ready, and has its number
abbrev pub invariant-loop-round : goal.invariant-loop-round
invariant-loop-round g l = GoesTo l.db l.initial.caller.pass l.caller.pass l.caller.tx
