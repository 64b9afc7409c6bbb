use Rattle.std.proofs.Common.{◌≡◌, ◌<◌, drop}
use Rattle.occ_walk.specs.Left.{left}
use Rattle.flat_items.specs.Stand.{MayStand, stand_of}
use Rattle.par_parts.proofs.passing.pass_own.Given as goal

abbrev pub invariant-own : goal.invariant-own
invariant-own g l = record {
  stands : MayStand l.ground (stand_of l.place);
  less : l.more < l.count;
  same : drop l.more (left l.ground (stand_of l.place)) ≡ drop l.count (left l.ground (stand_of l.fn.place));
}

abbrev pub decreases-own : goal.decreases-own
decreases-own g l = l.more
