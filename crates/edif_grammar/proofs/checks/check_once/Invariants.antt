use Rattle.std.proofs.Common.{◌≡◌, ◌++◌, List}
use Rattle.edif_spelling_spec.specs.Tree.{Placed}
use Rattle.edif_spec.specs.Faults.{those_of}
use Rattle.edif_tree.specs.Handles.{all}
use Rattle.edif_tree.specs.Eaches.{left}
use Rattle.edif_grammar.proofs.CheckLemmas.{IsSeen}
use Rattle.edif_grammar.proofs.checks.check_once.Given as goal

-- one stands before those that are left, or none
abbrev pub invariant-loop-node : goal.invariant-loop-node
invariant-loop-node l =
    (goal.iterator-loop-node).can_next l.node-iterator ×
    (goal.iterator-loop-node).is_finite l.node-iterator ×
    ((before : List Placed) × IsSeen l.is_there before × (those_of l.keyword (all l.fn.nodes) ≡ before ++ those_of l.keyword (left l.node-iterator)))
