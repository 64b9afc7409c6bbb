use Rattle.ungroup_plans.specs.Taken.{AreUsed}
use Rattle.ungroup_plans.proofs.TakenLemmas.{AreTaken}
use Rattle.ungroup_plans.proofs.taken.Taken.free.Given as goal

-- the names so far are taken
abbrev pub invariant-loop-number : goal.invariant-loop-number
invariant-loop-number l = record {
  taken : AreTaken l.fn.self l.name.items l.number l.self;
  used : AreUsed l.self l.name.items l.number;
}
