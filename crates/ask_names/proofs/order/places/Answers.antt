use Rattle.std.proofs.Common.{◌≡◌, arith, subst, sym}
use Rattle.ask_names.specs.Orders.{ArePlaces}
use Rattle.ask_names.proofs.OrderLemmas.{no_places, one_place_more, places_counted}
use Rattle.ask_names.proofs.order.places.Goals as goal

pub loop-place-init : goal.loop-place-init
loop-place-init c = subst (ArePlaces 0) (sym c.in_ok-places.ensures.items) no_places

pub loop-place-preserved : goal.loop-place-preserved
loop-place-preserved c = one_place_more c.loop-place.place c.loop-place.places.items c.push.new.self.items c.in_ok-push.ensures.items c.loop-place.invariant

pub returns : goal.returns
returns c =
    let done : c.loop-place.place ≡ c.args.count = omega arith in
    places_counted c.loop-place.place c.args.count c.loop-place.places.items done c.loop-place.invariant
