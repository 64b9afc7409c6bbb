use Rattle.std.proofs.Common.{take}
use Rattle.net_ways.proofs.AlongLemmas.{IsAlong}
use Rattle.net_ways.proofs.climb.cells_along.Given as goal

abbrev pub invariant-loop-step : goal.invariant-loop-step
invariant-loop-step g l = IsAlong (g.S.Shown.design l.design) l.fn.root (take l.step-index l.path) l.cells.items l.cell
