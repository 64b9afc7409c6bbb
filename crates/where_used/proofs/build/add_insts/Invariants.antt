use Rattle.std.proofs.Common.{take}
use Rattle.used_spec.specs.Uses.{placed_in}
use Rattle.where_used.specs.Index.{HasAdded}
use Rattle.where_used.proofs.build.add_insts.Given as goal

-- those so far are added
abbrev pub invariant-loop-place : goal.invariant-loop-place
invariant-loop-place l = HasAdded l.fn.index.items l.index.items (take l.place (placed_in l.cell l.insts))
