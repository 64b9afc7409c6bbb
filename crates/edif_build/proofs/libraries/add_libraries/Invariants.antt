use Rattle.std.proofs.Common.{◌≡◌, ◌++◌, List}
use Rattle.edif_spelling_spec.specs.Tree.{Placed}
use Rattle.edif_spec.specs.Stands.{libraries}
use Rattle.edif_tree.specs.Handles.{all}
use Rattle.edif_tree.specs.Eaches.{left}
use Rattle.edif_build.specs.Libraries.{LibsAre}
use Rattle.edif_build.proofs.libraries.add_libraries.Given as goal

abbrev pub invariant-loop-node : goal.invariant-loop-node
invariant-loop-node l =
    (goal.iterator-loop-node).can_next l.node-iterator ×
    (goal.iterator-loop-node).is_finite l.node-iterator ×
    ((seen : List Placed) × (all l.fn.inner ≡ seen ++ left l.node-iterator) × ((ds : List Placed) → LibsAre ds l.initial.libs → LibsAre (ds ++ libraries seen) l.libs))
