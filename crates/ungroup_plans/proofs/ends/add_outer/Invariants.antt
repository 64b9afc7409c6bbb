use Rattle.std.proofs.Common.{◌≡◌, ◌++◌, map, take}
use Rattle.ungroup_plans.specs.Ends.{outer_ends}
use Rattle.ungroup_plans.proofs.ends.add_outer.Given as goal

abbrev pub invariant-loop-k : goal.invariant-loop-k
invariant-loop-k l = l.lists.items ≡ l.initial.lists.items ++ map (outer_ends l.place l.children) (take l.k l.nets)
