use Rattle.edit_cells.proofs.Marking.{IsForgotten}
use Rattle.edit_cells.proofs.marks.forget.Given as goal

abbrev pub invariant-loop-place : goal.invariant-loop-place
invariant-loop-place l = IsForgotten l.list l.places l.first l.place
