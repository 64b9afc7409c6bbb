use Rattle.std.proofs.Common.{◌≡◌, ◌++◌, List}
use Rattle.edif_spelling_spec.specs.Tree.{Placed}
use Rattle.edif_tree.specs.Handles.{all}
use Rattle.edif_tree.specs.Eaches.{left}
use Rattle.edif_contents.specs.Nets.{NetsSoFar}
use Rattle.edif_contents.proofs.nets.take_nets.Given as goal

-- the nets so far
abbrev pub invariant-loop-node : goal.invariant-loop-node
invariant-loop-node l = record {
  can_next : (goal.iterator-loop-node).can_next l.node-iterator;
  is_finite : (goal.iterator-loop-node).is_finite l.node-iterator;
  nets : (before : List Placed) × (all l.fn.inner ≡ before ++ left l.node-iterator) × NetsSoFar l.around before l.list;
}
