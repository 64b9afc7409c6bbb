use Rattle.std.proofs.Common.{◌≡◌, ◌++◌, ℕ, List, [], length}
use Rattle.edif_spelling_spec.specs.Tree.{Placed}
use Rattle.edif_spec.specs.Design as design
use Rattle.edif_spec.specs.Faults.{those_of}
use Rattle.edif_spec.specs.declared.keyword.Keyword.TheVariants.{Cell}
use Rattle.edif_tree.specs.Handles.{all}
use Rattle.edif_tree.specs.Eaches.{left}
use Rattle.edif_build.specs.Libraries.{CellsAre}
use Rattle.edif_build.proofs.libraries.add_cells.Given as goal

abbrev pub invariant-loop-node : goal.invariant-loop-node
invariant-loop-node l =
    (goal.iterator-loop-node).can_next l.node-iterator ×
    (goal.iterator-loop-node).is_finite l.node-iterator ×
    ((seen : List Placed) × (all l.fn.inner ≡ seen ++ left l.node-iterator) ×
    ((before : List design.Lib) (head : design.LibHead) (names : List (List ℕ × ℕ)) → CellsAre before head names [] l.initial.libs → l.own ≡ length before → CellsAre before head names (those_of Cell seen) l.libs))
