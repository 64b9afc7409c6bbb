use Rattle.std.proofs.Common.{◌+◌, subst, sym}
use Rattle.ask_names.specs.Orders.{AreRow}
use Rattle.ask_names.proofs.IndexLemmas.{row_more}
use Rattle.ask_names.proofs.index.row_of.Goals as goal

pub loop-slot-preserved : goal.loop-slot-preserved
loop-slot-preserved g c =
    let d = g.S.Shown.design c.args.design.now in
    subst (AreRow d c.args.lib.0 (c.loop-slot.slot + 1)) (sym c.in_ok-push.ensures.items)
    (row_more d c.args.lib.0 c.loop-slot.slot c.loop-slot.row.items c.in_ok-orders.orders c.loop-slot.invariant c.in_ok-orders.ensures)
