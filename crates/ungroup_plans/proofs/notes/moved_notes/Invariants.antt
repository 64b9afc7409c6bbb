use Rattle.ungroup_plans.proofs.MovedLemmas.{AreMoved}
use Rattle.ungroup_plans.proofs.notes.moved_notes.Given as goal

abbrev pub invariant-loop-k : goal.invariant-loop-k
invariant-loop-k l = AreMoved l.within l.children l.notes l.places l.k l.made.items
