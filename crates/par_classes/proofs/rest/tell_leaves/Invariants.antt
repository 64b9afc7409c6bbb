use Rattle.par_classes.specs.Telling.{IsTelling}
use Rattle.par_classes.proofs.rest.tell_leaves.Given as goal

abbrev pub invariant-loop-cell : goal.invariant-loop-cell
invariant-loop-cell g l = IsTelling (g.S.Shown.design l.design) l.below l.telling.marks l.telling.classes
