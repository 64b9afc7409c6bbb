use Rattle.std.proofs.Common.{◌≡◌, ◌++◌, List, []}
use Rattle.edif_spelling_spec.specs.Tree.{Placed}
use Rattle.edif_spec.specs.Faults.{those_of}
use Rattle.edif_spec.specs.declared.keyword.Keyword.TheVariants as keywords
use Rattle.edif_tree.specs.Handles.{all}
use Rattle.edif_tree.specs.Eaches.{left}
use Rattle.edif_parts.proofs.ports.read_direction_among.Given as goal

abbrev pub invariant-loop-node : goal.invariant-loop-node
invariant-loop-node l =
    (goal.iterator-loop-node).can_next l.node-iterator ×
    (goal.iterator-loop-node).is_finite l.node-iterator ×
    ((before : List Placed) × (all l.fn.inner ≡ before ++ left l.node-iterator) × (those_of keywords.Direction before ≡ []))
