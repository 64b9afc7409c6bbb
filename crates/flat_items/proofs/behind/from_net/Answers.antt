use Rattle.std.proofs.Common.{◌≡◌, ◌≤◌, length, refl, sym, ap, ◌∙◌, arith}
use Rattle.flat_spec.specs.Occurrences.{Occurrence}
use Rattle.flat_spec.specs.Paths.{nets_at}
use Rattle.flat_items.specs.Left.{own_left}
use Rattle.flat_items.specs.Ports.{ports_shown}
use Rattle.flat_items.specs.Stand.{here_of, stand_of}
use Rattle.flat_items.specs.declared.place.PinAt.{PinAt}
use Rattle.flat_items.specs.declared.place.Stage.TheVariants.{Nets, Pins}
use Rattle.flat_items.proofs.PortLemmas.{first_is_pin}
use Rattle.flat_items.proofs.StageLemmas.{goes_on_with, nets_past}
use Rattle.flat_items.proofs.behind.from_net.Goals as goal

pub returns : goal.returns
returns g c =
    let d = g.S.Shown.design c.args.ground.now.design in
    let o : Occurrence = here_of (stand_of c.args.place.now) in
    let first : PinAt = record { number = 0; port = 0; bit = 0 } in
    let past : length (nets_at d o.cell) ≤ c.args.net =
    omega (arith, c.if-net-len.false, c.len.ensures, c.requires.stands.here.names.long, c.args.place.now.here.names.ok.0) in
    let ports : c.shown_ports.result.now ≡ ports_shown d o =
    c.shown_ports.ensures.ports ∙ ap (λ p. ports_shown d (record { path = p; cell = c.args.place.now.here.cell })) c.as_slice-path.ensures.value in
    goes_on_with d o (own_left d o (Pins first)) (own_left d o (Nets c.args.net)) c.from_pin.result (sym (nets_past d o c.args.net first past refl))
    (c.from_pin.ensures d o ports (first_is_pin d c.requires.ground.valid o))
