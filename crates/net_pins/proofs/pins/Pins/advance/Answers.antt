use Rattle.std.proofs.Common.{◌≡◌, subst}
use Rattle.std.specs.Prelude.{IfOk}
use Rattle.net_pins.specs.Spots.{stand_of}
use Rattle.net_pins.proofs.FoundLemmas.{some_left}
use Rattle.net_pins.proofs.pins.Pins.advance.Goals as goal

pub returns-clause-some : goal.returns-clause-some
returns-clause-some g c = λ is.
    some_left c.self.inside.asked c.self.invariant.asks (stand_of c.advance.new.spot) c.advance.ensures.stands
    (subst (λ r. IfOk r (λ more. c.advance.new.spot.ready ≡ more)) is c.advance.ensures.ready)
