use Rattle.std.proofs.Common.{◌++◌, ap, map, refl, ◌∙◌}
use Rattle.std.specs.List.{range_with_len}
use Rattle.flat_spec.specs.Flattening.{pin_item}
use Rattle.design_model.specs.Items.{bit_at, bits_from}
use Rattle.design_model.proofs.ItemLemmas.{port_more}
use Rattle.flat_spec.proofs.RunLemmas.{all_found}
use Rattle.design_model.proofs.items.add_pins.Goals as goal

pub loop-place-preserved : goal.loop-place-preserved
loop-place-preserved g c =
    let item = pin_item (g.S.Shown.design c.args.design.now) c.args.nets.now.root c.args.path.now in
    let added = c.in_ok-add_port.ensures ∙ ap (λ n. c.loop-place.items.items ++ map item (map (bit_at c.loop-place.place) (range_with_len 0 n))) c.width.ensures.width in
    port_more item c.args.ports.now c.loop-place.place c.index-ports-place.result c.loop-place.items.items c.add_port.new.items.items _
    c.loop-place-test.true c.index-ports-place.is added c.loop-place.invariant

pub returns : goal.returns
returns g c =
    let item = pin_item (g.S.Shown.design c.args.design.now) c.args.nets.now.root c.args.path.now in
    all_found (λ xs. map item (bits_from c.loop-place.place xs)) refl c.args.ports.now c.loop-place.place c.loop-place.items.items _
    c.loop-place-test.false c.loop-place.invariant
