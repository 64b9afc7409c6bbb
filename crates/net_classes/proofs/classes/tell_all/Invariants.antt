use Rattle.std.proofs.Common.{map, take}
use Rattle.net_classes.specs.Facts.{facts_of}
use Rattle.net_classes.specs.Known.{AreKnown}
use Rattle.net_classes.proofs.classes.tell_all.Given as goal

abbrev pub invariant-loop-cell : goal.invariant-loop-cell
invariant-loop-cell g l = AreKnown (g.S.Shown.design l.design) (take l.cell-index l.below) (map (λ row. map facts_of row.items) l.cells.items)
