use Rattle.std.specs.List.{All, Contains}
use Rattle.par_classes.proofs.workers.unmarked.Given as goal

abbrev pub invariant-loop-cell : goal.invariant-loop-cell
invariant-loop-cell l = All (Contains l.below) l.found.items
