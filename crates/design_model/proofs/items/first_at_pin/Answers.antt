use Rattle.std.proofs.Common.{◌≡◌, ◌∙◌, sym, ap, Some}
use Rattle.flat_spec.specs.Pins.{net_at_pin}
use Rattle.design_model.specs.Items.{bit_at}
use Rattle.design_model.proofs.PinLemmas.{net_at_pin-net}
use Rattle.design_model.proofs.TableLemmas.{net_listed}
use Rattle.design_model.proofs.items.first_at_pin.Goals as goal

pub first_of-requires-clause-listed : goal.first_of-requires-clause-listed
first_of-requires-clause-listed g c =
    let d = g.S.Shown.design c.args.design.now in
    let root = c.args.nets.now.root in
    let bit = bit_at c.args.port c.args.bit in
    let at : net_at_pin d root c.args.path.now bit ≡ Some c.in-Some.net =
    ap (λ p. net_at_pin d root p bit) (sym c.as_slice.ensures.value) ∙ sym c.in_ok-net_at_pin.ensures ∙ c.in-Some.is in
    net_listed d c.args.nets.now c.requires.nets c.requires.valid.no_cycle c.in-Some.net (net_at_pin-net d root c.args.path.now bit c.in-Some.net at)
