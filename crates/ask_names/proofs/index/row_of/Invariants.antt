use Rattle.ask_names.specs.Orders.{AreRow}
use Rattle.ask_names.proofs.index.row_of.Given as goal

abbrev pub invariant-loop-slot : goal.invariant-loop-slot
invariant-loop-slot g l = AreRow (g.S.Shown.design l.design) l.fn.lib.0 l.slot l.row.items
