use Rattle.flat_cells.proofs.MarkLemmas.{AreMarkedFrom}
use Rattle.flat_cells.proofs.below.mark_below.Given as goal

abbrev pub invariant-loop-passed : goal.invariant-loop-passed
invariant-loop-passed g l = AreMarkedFrom (g.S.Shown.design l.design) l.cells l.passed l.fn.marks l.marks
