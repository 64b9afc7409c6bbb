use Rattle.std.proofs.Common.{◌≡◌, length}
use Rattle.netlist_schema.specs.Design.{Design, cells_in}
use Rattle.db_work.specs.Becomes.{IsBehind, IsFuller}
use Rattle.db_work.proofs.work.Work.add_behind.Given as goal

abbrev pub invariant-loop-slot : goal.invariant-loop-slot
invariant-loop-slot l = ((target : Design) → IsBehind l.self target l.initial.moved.design → IsFuller l.self target l.initial.moved.design l.moved.design) × (l.slot ≡ length (cells_in l.moved.design l.lib))
