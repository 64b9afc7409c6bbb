use Rattle.std.proofs.Common.{subst, Option}
use Rattle.flat_spec.specs.Occurrences.{Occurrence}
use Rattle.flat_spec.specs.Types.{NetAt}
use Rattle.flat_items.specs.Ports.{ports_shown}
use Rattle.flat_items.specs.Stand.{here_of, stand_of}
use Rattle.flat_items.specs.Texts.{IsFirstText}
use Rattle.flat_items.proofs.PortLemmas.{pin_bit}
use Rattle.flat_items.proofs.StageLemmas.{port_of_pin}
use Rattle.flat_items.proofs.TextLemmas.{pin_told}
use Rattle.flat_items.proofs.texts.pin_text.Goals as goal

pub first_at-first-requires-clause-pin : goal.first_at-first-requires-clause-pin
first_at-first-requires-clause-pin g c =
    let d = g.S.Shown.design c.args.ground.now.design in
    let o : Occurrence = here_of (stand_of c.args.place.now) in
    let port = port_of_pin (ports_shown d o) c.args.pin.port c.requires.pin.1 in
    (pin_bit d c.requires.ground.valid o c.args.pin port.0 port.1 c.requires.pin.0).own

pub returns : goal.returns
returns g c =
    let d = g.S.Shown.design c.args.ground.now.design in
    let o : Occurrence = here_of (stand_of c.args.place.now) in
    let port = port_of_pin (ports_shown d o) c.args.pin.port c.requires.pin.1 in
    pin_told d c.requires.ground.valid o c.args.pin port.0 c.text_here.result c.text_of_first.result port.1 c.requires.pin.0 c.text_here.ensures.path
    (subst (λ (v : Option NetAt). IsFirstText d v c.text_of_first.result) c.first_at-first.ensures.net c.text_of_first.ensures)
