use Rattle.par_classes.proofs.TellingLemmas.{IsTellingUpto}
use Rattle.par_classes.proofs.rest.tell_rest.Given as goal

abbrev pub invariant-loop-cell : goal.invariant-loop-cell
invariant-loop-cell g l = IsTellingUpto (g.S.Shown.design l.design) l.below l.cell-index l.marks l.classes
