use Rattle.std.proofs.Common.{take}
use Rattle.flat_cells.specs.Marks.{AreInstsMarked}
use Rattle.flat_cells.proofs.below.mark_children.Given as goal

abbrev pub invariant-loop-place : goal.invariant-loop-place
invariant-loop-place g l = AreInstsMarked (take l.place l.insts) l.fn.marks l.marks
