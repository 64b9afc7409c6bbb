use Rattle.std.proofs.Common.{ℕ, List, drop, length}
use Rattle.netlist_order.specs.ReadyQueue.{IsReadyQueue, IsSized}
use Rattle.netlist_schema.specs.Design.{cells_in}
use Rattle.netlist_order.proofs.ready_queue.ReadyQueue.settle.Given as goal

abbrev pub invariant-loop-cell : goal.invariant-loop-cell
invariant-loop-cell g l = IsSized (length (cells_in (g.S.Shown.design l.design) l.lib)) l.self
    × ((done : List ℕ) → IsReadyQueue l.lib.0 (cells_in (g.S.Shown.design l.design) l.lib) done l.fn.cells l.fn.self
    → IsReadyQueue l.lib.0 (cells_in (g.S.Shown.design l.design) l.lib) done (drop l.cell-index l.fn.cells) l.self)
