use Rattle.std.proofs.Common.{◌≡◌, ◌++◌, ◌-◌, [], length}
use Rattle.netlist_order.specs.ReadyQueue.{IsReadyQueue, IsSized}
use Rattle.netlist_order_spec.specs.Order.{order_from, order_of}
use Rattle.netlist_schema.specs.Design.{cells_in}
use Rattle.netlist_order.proofs.order.cell_order.Given as goal

abbrev pub invariant-loop : goal.invariant-loop
invariant-loop g l = IsSized (length (cells_in (g.S.Shown.design l.design) l.lib)) l.queue
    × IsReadyQueue l.lib.0 (cells_in (g.S.Shown.design l.design) l.lib) l.order.items [] l.queue
    × (l.order.items ++ order_from l.lib.0 (cells_in (g.S.Shown.design l.design) l.lib) (length (cells_in (g.S.Shown.design l.design) l.lib) - l.counter) l.order.items ≡ order_of l.lib.0 (cells_in (g.S.Shown.design l.design) l.lib))
