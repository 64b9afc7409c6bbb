use Rattle.std.proofs.Common.{◌≡◌, ◌++◌, List}
use Rattle.std.specs.List.{AllZip}
use Rattle.edif_spelling_spec.specs.Tree.{Placed}
use Rattle.edif_tree.specs.Handles.{all}
use Rattle.edif_tree.specs.Eaches.{left}
use Rattle.edif_contents.specs.Nets.{IsWideEnd}
use Rattle.edif_contents.proofs.nets.read_stretches.Given as goal

-- the ends so far
abbrev pub invariant-loop-node : goal.invariant-loop-node
invariant-loop-node l = record {
  can_next : (goal.iterator-loop-node).can_next l.node-iterator;
  is_finite : (goal.iterator-loop-node).is_finite l.node-iterator;
  ends : (before : List Placed) × (all l.fn.nodes ≡ before ++ left l.node-iterator) × AllZip (IsWideEnd l.around l.array) before l.stretches.items;
}
