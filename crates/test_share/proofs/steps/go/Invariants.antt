use Rattle.test_share.specs.Callers.{GoesTo}
use Rattle.test_share.proofs.steps.go.Given as goal

-- the pass is ready, and has its number
abbrev pub invariant-loop-one : goal.invariant-loop-one
invariant-loop-one g l = GoesTo l.db l.initial.caller.pass l.caller.pass l.caller.tx
