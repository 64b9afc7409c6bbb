use Rattle.std.proofs.Common.{◌≡◌, ◌++◌, List, None}
use Rattle.std.specs.List.{AllZip}
use Rattle.edif_spelling_spec.specs.Tree.{Placed}
use Rattle.edif_tree.specs.Handles.{all}
use Rattle.edif_tree.specs.Eaches.{left}
use Rattle.edif_spec.specs.Nets.{bit_of}
use Rattle.edif_contents.specs.Nets.{IsWideEnd}
use Rattle.edif_contents.proofs.nets.read_ends.Given as goal

-- the ends so far
abbrev pub invariant-loop-node : goal.invariant-loop-node
invariant-loop-node l = record {
  can_next : (goal.iterator-loop-node).can_next l.node-iterator;
  is_finite : (goal.iterator-loop-node).is_finite l.node-iterator;
  ends : (before : List Placed) × (all l.fn.nodes ≡ before ++ left l.node-iterator) × AllZip (λ u e. IsWideEnd l.around None u (bit_of e)) before l.ends.items;
}
