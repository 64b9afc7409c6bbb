use Rattle.std.proofs.Common.{◌≡◌, ◌+◌, ◌*◌, ◌++◌, ◌≤◌, List, length}
use Rattle.edif_spelling_spec.specs.Tree.{Placed}
use Rattle.edif_tree.specs.Handles.{all}
use Rattle.edif_tree.specs.Eaches.{left}
use Rattle.edif_nets.proofs.limits.ends_room.Given as goal

-- so many with the ends at the nodes so far
abbrev pub invariant-loop-node : goal.invariant-loop-node
invariant-loop-node l = record {
  can_next : (goal.iterator-loop-node).can_next l.node-iterator;
  is_finite : (goal.iterator-loop-node).is_finite l.node-iterator;
  count : (before : List Placed) × (all l.fn.nodes ≡ before ++ left l.node-iterator) × (l.count ≡ l.joined + length before * l.size);
  few : l.count ≤ 4194304;
}
