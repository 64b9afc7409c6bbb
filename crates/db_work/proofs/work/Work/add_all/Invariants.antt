use Rattle.std.proofs.Common.{take}
use Rattle.netlist_schema.specs.Design.{Design}
use Rattle.db_work.specs.Becomes.{IsBehind}
use Rattle.db_work.proofs.Becoming.{AddsTo}
use Rattle.db_work.proofs.work.Work.add_all.Given as goal

abbrev pub invariant-loop-object : goal.invariant-loop-object
invariant-loop-object l = (target : Design) → IsBehind l.self target l.initial.moved.design → AddsTo l.self target l.initial.moved.design l.moved.design (take l.object-index l.object-items)
