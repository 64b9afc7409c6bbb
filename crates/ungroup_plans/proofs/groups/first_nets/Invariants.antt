use Rattle.std.proofs.Common.{◌≡◌, ◌++◌, drop, filter, map}
use Rattle.std.specs.List.{enumerate_from}
use Rattle.ungroup_plans.specs.Grouped.{first_nets, is_first, with_list}
use Rattle.ungroup_plans.proofs.groups.first_nets.Given as goal

abbrev pub invariant-loop-place : goal.invariant-loop-place
invariant-loop-place l =
    l.made.items ++ map (with_list l.behind l.lists) (filter (is_first l.behind l.heads) (enumerate_from l.place (drop l.place l.nets))) ≡ first_nets l.behind l.heads l.lists l.nets
