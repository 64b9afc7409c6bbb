use Rattle.std.proofs.Common.{◌≡◌, ◌+◌, length}
use Rattle.std.specs.List.{flat_map}
use Rattle.netlist_schema.specs.Types.{Net}
use Rattle.eco_ops.proofs.end_plans.end_count.Given as goal

-- the number of ends of the nets so far, and of those that are left
abbrev pub invariant-loop-net : goal.invariant-loop-net
invariant-loop-net l = record {
  can_next : (goal.iterator-loop-net).can_next l.net-iterator;
  is_finite : (goal.iterator-loop-net).is_finite l.net-iterator;
  left : l.count + length (flat_map (λ (net : Net). net.ends) l.net-iterator) ≡ length (flat_map (λ (net : Net). net.ends) l.nets);
}
