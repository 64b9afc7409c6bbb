use Rattle.test_share.specs.Trios.{AreReady}
use Rattle.test_share.proofs.trio.all_phases.Given as goal

-- the callers are still those of the database
abbrev pub invariant-loop-phase : goal.invariant-loop-phase
invariant-loop-phase g l = AreReady l.db l.trio
