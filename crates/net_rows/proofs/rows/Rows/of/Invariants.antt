use Rattle.std.proofs.Common.{take}
use Rattle.net_rows.specs.Rows.{AreRows}
use Rattle.net_rows.proofs.IndexLemmas.{IsClosed}
use Rattle.net_rows.proofs.rows.Rows.of.Given as goal

abbrev pub invariant-loop-cell : goal.invariant-loop-cell
invariant-loop-cell g l = AreRows l.fn.role (g.S.Shown.design l.design) l.classes (take l.cell-index l.below) l.rows × IsClosed (g.S.Shown.design l.design) (take l.cell-index l.below)
