use Rattle.std.proofs.Common.{◌≡◌, false}
use Rattle.net_pins.specs.Spots.{MayStand, left, stand_of}
use Rattle.net_pins.proofs.spot.advance.Given as goal

abbrev pub invariant-loop : goal.invariant-loop
invariant-loop g l = record {
  stands : MayStand l.asked (stand_of l.spot);
  same : left l.asked (stand_of l.spot) ≡ left l.asked (stand_of l.fn.spot);
  looks : l.spot.ready ≡ false;
}
