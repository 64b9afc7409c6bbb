use Rattle.std.proofs.Common.{◌≡◌, [], length}
use Rattle.occ_walk.specs.Left.{left}
use Rattle.flat_items.specs.Left.{own_left}
use Rattle.flat_items.specs.Stand.{MayStand, here_of, stand_of}
use Rattle.occ_walk.proofs.steps.go_on.Given as goal

abbrev pub invariant-up : goal.invariant-up
invariant-up g l = record {
  stands : MayStand (g.S.Shown.design l.ground.design) (stand_of l.place);
  done : own_left (g.S.Shown.design l.ground.design) (here_of (stand_of l.place)) l.place.stage ≡ [];
  same : left (g.S.Shown.design l.ground.design) (stand_of l.place) ≡ left (g.S.Shown.design l.ground.design) (stand_of l.fn.place);
}

abbrev pub decreases-up : goal.decreases-up
decreases-up g l = length l.place.above.items
