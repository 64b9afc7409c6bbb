use Rattle.ungroup_plans.proofs.ListsLemmas.{AreSoFar}
use Rattle.ungroup_plans.proofs.lists.add_all.Given as goal

abbrev pub invariant-loop-k : goal.invariant-loop-k
invariant-loop-k l = AreSoFar l.numbers l.ends l.k l.initial.lists l.lists
