use Rattle.std.proofs.Common.{take}
use Rattle.eco_reads.proofs.Going.{HasGone}
use Rattle.eco_reads.proofs.walk.leads.Given as goal

-- the steps so far lead to this cell
abbrev pub invariant-loop-step : goal.invariant-loop-step
invariant-loop-step g l = HasGone (g.C.Cells.state l.fn.cells) (g.C.Cells.state l.cells) l.fn.top l.at (take l.step-index l.step-items)
