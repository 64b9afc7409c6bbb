use Rattle.std.proofs.Common.{take}
use Rattle.par_parts.specs.Items.{AreCounted}
use Rattle.par_parts.proofs.counts.count_all.Given as goal

abbrev pub invariant-loop-cell : goal.invariant-loop-cell
invariant-loop-cell g l = AreCounted (g.S.Shown.design l.design) (take l.cell-index l.below) l.counts
