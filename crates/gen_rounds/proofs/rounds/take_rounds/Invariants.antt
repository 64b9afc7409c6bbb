use Rattle.gen_rounds.specs.Stand.{StandsAfter}
use Rattle.gen_rounds.proofs.rounds.take_rounds.Given as goal

-- so many rounds are over
abbrev pub invariant-loop-passed : goal.invariant-loop-passed
invariant-loop-passed l = StandsAfter l.count l.passed l.core
