use Rattle.std.proofs.Common.{take}
use Rattle.occ_walk.specs.Starts.{IsAtStart}
use Rattle.flat_items.specs.Stand.{stand_of}
use Rattle.occ_walk.proofs.starts.go_along.Given as goal

abbrev pub invariant-loop-step : goal.invariant-loop-step
invariant-loop-step g l = IsAtStart (g.S.Shown.design l.ground.design) (take l.step-index l.path) (stand_of l.place)
