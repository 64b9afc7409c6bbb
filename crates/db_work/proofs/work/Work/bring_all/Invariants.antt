use Rattle.std.proofs.Common.{take}
use Rattle.netlist_schema.specs.Design.{Design}
use Rattle.db_work.specs.Becomes.{AreNewMet, IsNear}
use Rattle.db_work.proofs.Becoming.{BringsTo}
use Rattle.db_work.proofs.work.Work.bring_all.Given as goal

abbrev pub invariant-loop-object : goal.invariant-loop-object
invariant-loop-object l = (target : Design) → IsNear l.self target l.initial.moved.design → AreNewMet l.head.design target l.initial.moved.design
    → BringsTo l.self target l.moved.design (take l.object-index l.object-items) × AreNewMet l.head.design target l.moved.design
