use Rattle.std.proofs.Common.{◌≡◌, take}
use Rattle.eco_reads.specs.Named.{AreNamed}
use Rattle.eco_reads.proofs.Going.{HasGone}
use Rattle.ungroup_op.specs.Crossing.{crossing}
use Rattle.ungroup_op.proofs.notes.crossing.Given as goal

-- the steps so far lead to this cell, and it is known which is the instance
abbrev pub invariant-loop-place : goal.invariant-loop-place
invariant-loop-place g l = record {
  gone : HasGone (g.C.Cells.state l.fn.cells) (g.C.Cells.state l.cells) l.crossed.top l.at (take l.place l.step-items);
  named : AreNamed (g.C.Cells.state l.fn.cells).design l.named;
  found : l.found ≡ crossing (g.C.Cells.state l.fn.cells).design l.crossed.cell l.crossed.inst.now l.crossed.top (take l.place l.step-items);
}
