use Rattle.std.proofs.Common.{◌≡◌, ◌≤◌, ◌+◌, ◌-◌, ◌^◌, drop, length, min}
use Rattle.std.specs.List.{flat_map}
use Rattle.ungroup_plans.proofs.limits.count_ends.Given as goal

abbrev pub invariant-loop-net : goal.invariant-loop-net
invariant-loop-net l = record {
  low : l.count ≤ 2 ^ 64 - 1;
  so_far : min (l.count + length (flat_map (λ net. net.ends) (drop l.net-index l.nets))) (2 ^ 64 - 1) ≡ min (l.initial.count + length (flat_map (λ net. net.ends) l.nets)) (2 ^ 64 - 1);
}
