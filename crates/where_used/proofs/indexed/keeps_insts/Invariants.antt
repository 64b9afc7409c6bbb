use Rattle.std.proofs.Common.{take}
use Rattle.std.specs.List.{All}
use Rattle.where_used.specs.Changes.{KeepsInsts}
use Rattle.where_used.proofs.indexed.keeps_insts.Given as goal

abbrev pub invariant-loop-change : goal.invariant-loop-change
invariant-loop-change l = All KeepsInsts (take l.change-index l.changes)
