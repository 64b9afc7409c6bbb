use Rattle.std.proofs.Common.{subst, sym}
use Rattle.net_pins.specs.Spots.{GoesOn, MayAsk, MayStand, Question, stand_of}
use Rattle.net_pins.proofs.listing.next_listed.Goals as goal

pub next_pin-requires-clause-asks : goal.next_pin-requires-clause-asks
next_pin-requires-clause-asks g c = subst MayAsk (sym c.asked-lent.ensures) c.requires.asks

pub next_pin-requires-clause-stands : goal.next_pin-requires-clause-stands
next_pin-requires-clause-stands g c = subst (λ (q : Question). MayStand q (stand_of c.args.spot.now)) (sym c.asked-lent.ensures) c.requires.stands

pub returns : goal.returns
returns g c =
    let e = c.next_pin.ensures in
    subst (λ (q : Question). GoesOn q (stand_of c.args.spot.now) (stand_of c.next_pin.new.spot) c.next_pin.result) c.asked-lent.ensures
    (record { stands = e.stands; none = e.none; some = e.some; err = e.err })
