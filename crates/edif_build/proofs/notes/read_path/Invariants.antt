use Rattle.std.proofs.Common.{◌≡◌}
use Rattle.edif_spec.specs.Faults.{arguments}
use Rattle.edif_tree.specs.Handles.{here}
use Rattle.edif_tree.specs.Eaches.{left}
use Rattle.edif_build.proofs.NoteLemmas.{Onward}
use Rattle.edif_build.proofs.notes.read_path.Given as goal

abbrev pub invariant-loop-step : goal.invariant-loop-step
invariant-loop-step l =
    (goal.iterator-loop-step).can_next l.step-iterator ×
    (goal.iterator-loop-step).is_finite l.step-iterator ×
    Onward l.fn.reached.libs l.fn.top (arguments (here l.fn.node)) (left l.step-iterator) l.id l.path.items ×
    (l.reached ≡ l.fn.reached)
