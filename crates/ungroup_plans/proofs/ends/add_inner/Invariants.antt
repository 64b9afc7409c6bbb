use Rattle.std.proofs.Common.{◌≡◌, ◌++◌, map, take}
use Rattle.ungroup_plans.specs.Ends.{inner_ends}
use Rattle.ungroup_plans.proofs.ends.add_inner.Given as goal

abbrev pub invariant-loop-k : goal.invariant-loop-k
invariant-loop-k l = l.lists.items ≡ l.initial.lists.items ++ map (inner_ends l.place) (take l.k l.nets)
