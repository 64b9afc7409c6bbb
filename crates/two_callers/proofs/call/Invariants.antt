use Rattle.db_share.specs.Calls.{Stays}
use Rattle.two_callers.proofs.call.Given as goal

-- the pass is ready, and has its number
abbrev pub invariant-loop : goal.invariant-loop
invariant-loop g l = Stays l.db l.initial.pass l.pass
