use Rattle.std.proofs.Common.{◌≡◌, drop}
use Rattle.occ_walk.specs.Left.{left}
use Rattle.flat_items.specs.Stand.{MayStand, stand_of}
use Rattle.par_parts.proofs.passing.skip_many.Given as goal

abbrev pub invariant-on : goal.invariant-on
invariant-on g l = record {
  stands : MayStand l.ground (stand_of l.place);
  same : drop l.more (left l.ground (stand_of l.place)) ≡ drop l.count (left l.ground (stand_of l.fn.place));
}

abbrev pub decreases-on : goal.decreases-on
decreases-on g l = l.more
