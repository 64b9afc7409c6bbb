use Rattle.std.proofs.Common.{◌≡◌, ◌++◌, List, map}
use Rattle.edif_spelling_spec.specs.Tree.{Placed}
use Rattle.edif_spec.specs.Faults.{place_of}
use Rattle.edif_tree.specs.Handles.{all}
use Rattle.edif_tree.specs.Eaches.{left}
use Rattle.edif_nets.proofs.joins.net_places.Given as goal

-- the places of the nodes so far
abbrev pub invariant-loop-node : goal.invariant-loop-node
invariant-loop-node l = record {
  can_next : (goal.iterator-loop-node).can_next l.node-iterator;
  is_finite : (goal.iterator-loop-node).is_finite l.node-iterator;
  places : (before : List Placed) × (all l.fn.nodes ≡ before ++ left l.node-iterator) × (l.places.items ≡ l.fn.places.items ++ map place_of before);
}
