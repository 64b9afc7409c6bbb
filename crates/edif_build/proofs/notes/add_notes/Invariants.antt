use Rattle.std.proofs.Common.{◌≡◌, ◌++◌, List}
use Rattle.edif_spelling_spec.specs.Tree.{Placed}
use Rattle.edif_spec.specs.Means.{is_note}
use Rattle.edif_tree.specs.Handles.{all}
use Rattle.edif_tree.specs.Eaches.{left}
use Rattle.edif_build.specs.Notes.{AreNoted}
use Rattle.edif_build.proofs.FilterSteps.{passing}
use Rattle.edif_build.proofs.notes.add_notes.Given as goal

abbrev pub invariant-loop-node : goal.invariant-loop-node
invariant-loop-node l =
    (goal.iterator-loop-node).can_next l.node-iterator ×
    (goal.iterator-loop-node).is_finite l.node-iterator ×
    ((before : List Placed) × (all l.fn.inner ≡ before ++ left l.node-iterator) × AreNoted l.fn.reached.libs l.top (passing is_note before) l.notes.items l.keys) ×
    (l.reached ≡ l.fn.reached)
