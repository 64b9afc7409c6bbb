use Rattle.std.proofs.Common.{◌≡◌}
use Rattle.netlist_order.specs.ReadyQueue.{first_cells}
use Rattle.netlist_order.proofs.order.all_cells.Given as goal

abbrev pub invariant-loop-slot : goal.invariant-loop-slot
invariant-loop-slot l = l.all.items ≡ first_cells l.slot
