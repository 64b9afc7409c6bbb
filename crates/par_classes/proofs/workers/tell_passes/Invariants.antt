use Rattle.par_classes.specs.Telling.{IsTelling}
use Rattle.par_classes.proofs.workers.tell_passes.Given as goal

abbrev pub invariant-loop : goal.invariant-loop
invariant-loop g l = IsTelling (g.S.Shown.design l.design) l.below l.telling.marks l.telling.classes
