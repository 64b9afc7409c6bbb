use Rattle.std.proofs.Common.{◌≡◌, subst, sym}
use Rattle.ask_spec.specs.Roles.{pins_as}
use Rattle.net_pins.specs.Spots.{MayAsk, MayStand, Question, left, stand_of}
use Rattle.net_pins.proofs.listing.begin_listing.Goals as goal

pub start-requires : goal.start-requires
start-requires g c = subst MayAsk (sym c.asked.ensures) c.requires

pub invariant_of-result : goal.invariant_of-result
invariant_of-result g c = record {
  asks = c.requires;
  stands = subst (λ (q : Question). MayStand q (stand_of c.in_ok-spot.spot)) c.asked.ensures c.in_ok-spot.ensures.stands;
}

pub returns : goal.returns
returns g c = subst (λ (q : Question). left q (stand_of c.in_ok-spot.spot) ≡ pins_as q.role q.design q.first) c.asked.ensures c.in_ok-spot.ensures.left
