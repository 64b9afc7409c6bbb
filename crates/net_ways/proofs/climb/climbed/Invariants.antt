use Rattle.net_ways.proofs.ClimbLemmas.{IsClimb}
use Rattle.net_ways.proofs.climb.climbed.Given as goal

abbrev pub invariant-up : goal.invariant-up
invariant-up g l = IsClimb (g.S.Shown.design l.ground.design) l.ground.classes l.path l.cells l.fn.net l.depth l.first

abbrev pub decreases-up : goal.decreases-up
decreases-up g l = l.depth
