use Rattle.std.proofs.Common.{◌≡◌, take}
use Rattle.edit_rules_spec.specs.Paths.{goes_through}
use Rattle.eco_reads.specs.Named.{AreNamed}
use Rattle.eco_reads.proofs.Going.{HasGone}
use Rattle.eco_reads.proofs.walk.goes_through.Given as goal

-- the steps so far lead to this cell, and it is known whether they go through the instance
abbrev pub invariant-loop-step : goal.invariant-loop-step
invariant-loop-step g l = record {
  gone : HasGone (g.C.Cells.state l.fn.cells) (g.C.Cells.state l.cells) l.crossed.top l.at (take l.step-index l.step-items);
  named : AreNamed (g.C.Cells.state l.fn.cells).design l.named;
  found : l.found ≡ goes_through (g.C.Cells.state l.fn.cells).design l.crossed.cell l.crossed.inst.now l.crossed.top (take l.step-index l.step-items);
}
