use Rattle.std.proofs.Common.{◌≡◌, ◌≤◌, drop, length, take, true}
use Rattle.bus_members.specs.Widths.{ports_among}
use Rattle.netlist_bus_spec.specs.Runs.{are_members}
use Rattle.bus_members.proofs.runs.members.Given as goal

-- the nets so far are members, and the others are left
abbrev pub invariant-loop-net : goal.invariant-loop-net
invariant-loop-net g l = record {
  can_next : (goal.iterator-loop-net g).can_next l.net-iterator;
  is_finite : (goal.iterator-loop-net g).is_finite l.net-iterator;
  left : drop l.count l.nets ≡ l.net-iterator;
  within : l.count ≤ length l.nets;
  bounded : l.count ≤ l.width;
  members : are_members (ports_among (g.S.Shown.design l.inside.design.now) l.inside.own.now l.inside.insts.now) l.width l.first 0 (take l.count l.nets) ≡ true;
}
