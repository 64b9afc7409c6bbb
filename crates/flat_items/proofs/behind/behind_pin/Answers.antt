use Rattle.std.proofs.Common.{◌≡◌, ◌<◌, arith, drop, sym, ap, subst, ◌∙◌, Some, slice_get}
use Rattle.std.specs.Prelude.{IfSome}
use Rattle.std.specs.Option.{option_copied}
use Rattle.netlist_schema.specs.Design.{port_width}
use Rattle.netlist_schema.specs.Types.{Port}
use Rattle.flat_spec.specs.Occurrences.{Occurrence}
use Rattle.flat_items.specs.Left.{own_left}
use Rattle.flat_items.specs.Ports.{pin_behind, ports_shown}
use Rattle.flat_items.specs.Stand.{here_of, stand_of}
use Rattle.flat_items.specs.declared.place.Stage.TheVariants.{Pins}
use Rattle.flat_items.proofs.PortLemmas.{pin_bit}
use Rattle.flat_items.proofs.StageLemmas.{goes_on_with, pin_behind_left}
use Rattle.flat_items.proofs.behind.behind_pin.Goals as goal

pub behind-requires-clause-number : goal.behind-requires-clause-number
behind-requires-clause-number g c =
    let d = g.S.Shown.design c.args.ground.now.design in
    let o : Occurrence = here_of (stand_of c.args.place.now) in
    let ports : c.shown_ports-ports.result.now ≡ ports_shown d o =
    c.shown_ports-ports.ensures.ports ∙ ap (λ p. ports_shown d (record { path = p; cell = c.args.place.now.here.cell })) c.as_slice-path.ensures.value in
    let some : slice_get c.shown_ports-ports.result.now c.args.pin.port ≡ Some c.in-Some.port.now = sym c.port_at.ensures ∙ ap option_copied c.in-Some.is in
    let at : slice_get (ports_shown d o) c.args.pin.port ≡ Some c.in-Some.port.now = ap (λ v. slice_get v c.args.pin.port) (sym ports) ∙ some in
    let few = (pin_bit d c.requires.ground.valid o c.args.pin c.in-Some.port.now at c.requires.pin.0).few in
    omega (arith, few)

pub behind-requires-clause-bit : goal.behind-requires-clause-bit
behind-requires-clause-bit g c =
    let d = g.S.Shown.design c.args.ground.now.design in
    let o : Occurrence = here_of (stand_of c.args.place.now) in
    let ports : c.shown_ports-ports.result.now ≡ ports_shown d o =
    c.shown_ports-ports.ensures.ports ∙ ap (λ p. ports_shown d (record { path = p; cell = c.args.place.now.here.cell })) c.as_slice-path.ensures.value in
    let some : slice_get c.shown_ports-ports.result.now c.args.pin.port ≡ Some c.in-Some.port.now = sym c.port_at.ensures ∙ ap option_copied c.in-Some.is in
    let at : slice_get (ports_shown d o) c.args.pin.port ≡ Some c.in-Some.port.now = ap (λ v. slice_get v c.args.pin.port) (sym ports) ∙ some in
    let less : c.args.pin.bit < port_width c.in-Some.port.now = subst (λ v. IfSome v (λ (q : Port). c.args.pin.bit < port_width q)) at c.requires.pin.0.within in
    omega (arith, less, c.width.ensures.width, c.width.ensures.most)

pub returns : goal.returns
returns g c =
    let d = g.S.Shown.design c.args.ground.now.design in
    let o : Occurrence = here_of (stand_of c.args.place.now) in
    let ports : c.shown_ports-ports.result.now ≡ ports_shown d o =
    c.shown_ports-ports.ensures.ports ∙ ap (λ p. ports_shown d (record { path = p; cell = c.args.place.now.here.cell })) c.as_slice-path.ensures.value in
    let some : slice_get c.shown_ports-ports.result.now c.args.pin.port ≡ Some c.in-Some.port.now = sym c.port_at.ensures ∙ ap option_copied c.in-Some.is in
    let at : slice_get (ports_shown d o) c.args.pin.port ≡ Some c.in-Some.port.now = ap (λ v. slice_get v c.args.pin.port) (sym ports) ∙ some in
    let behind = pin_behind_left d c.requires.ground.valid o c.args.pin c.behind.result c.in-Some.port.now at c.requires.pin.0
    (c.behind.ensures ∙ ap (pin_behind c.args.pin) c.width.ensures.width) in
    goes_on_with d o (own_left d o (Pins c.behind.result)) (drop 1 (own_left d o (Pins c.args.pin))) c.from_pin.result behind.1 (c.from_pin.ensures d o ports behind.0)
