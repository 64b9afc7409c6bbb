use Rattle.std.proofs.Common.{ap, ◌∙◌, Option}
use Rattle.std.specs.Option.{option_map}
use Rattle.flat_spec.specs.Occurrences.{Occurrence}
use Rattle.flat_spec.specs.Paths.{Bit}
use Rattle.flat_spec.specs.Pins.{net_at_pin}
use Rattle.flat_spec.specs.Representatives.{representative}
use Rattle.flat_spec.specs.Types.{NetAt}
use Rattle.flat_spec.specs.declared.item.Item.TheVariants as items
use Rattle.flat_items.specs.Ports.{ports_shown}
use Rattle.flat_items.specs.Stand.{here_of, stand_of, top_of}
use Rattle.flat_items.specs.declared.lent.ItemRef.TheVariants as refs
use Rattle.flat_items.proofs.PortLemmas.{pin_bit}
use Rattle.flat_items.proofs.StageLemmas.{pin_ahead, port_of_pin}
use Rattle.flat_items.proofs.pins.pin_item.Goals as goal

pub first_at-requires-clause-pin : goal.first_at-requires-clause-pin
first_at-requires-clause-pin g c =
    let d = g.S.Shown.design c.args.ground.now.design in
    let o : Occurrence = here_of (stand_of c.args.place.now) in
    let port = port_of_pin (ports_shown d o) c.args.pin.port c.requires.pin.1 in
    (pin_bit d c.requires.ground.valid o c.args.pin port.0 port.1 c.requires.pin.0).own

pub returns : goal.returns
returns g c =
    let d = g.S.Shown.design c.args.ground.now.design in
    let o : Occurrence = here_of (stand_of c.args.place.now) in
    let port = port_of_pin (ports_shown d o) c.args.pin.port c.requires.pin.1 in
    let b : Bit = record { port = c.args.pin.port; bit = c.args.pin.bit } in
    pin_ahead d c.requires.ground.valid o c.args.pin port.0 (refs.Pin c.as_slice.result c.args.pin.port c.args.pin.bit c.first_at.result) port.1 c.requires.pin.0
    (ap (λ (r : Option NetAt). items.Pin c.as_slice.result.now c.args.pin.port c.args.pin.bit r) c.first_at.ensures.net
    ∙ ap (λ p. items.Pin p c.args.pin.port c.args.pin.bit (option_map (representative d (top_of d).cell) (net_at_pin d (top_of d).cell c.args.place.now.path.steps.items b)))
    c.as_slice.ensures.value)
