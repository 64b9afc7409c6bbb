use Rattle.netlist_order.specs.ReadyQueue.{flag, AllPast}
use Rattle.netlist_order.proofs.ready_queue.ReadyQueue.first_unwritten.Given as goal

abbrev pub invariant-loop-place : goal.invariant-loop-place
invariant-loop-place l = AllPast l.lib.0 (flag l.self) l.insts l.from l.place
