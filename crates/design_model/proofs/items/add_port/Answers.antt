use Rattle.std.proofs.Common.{◌≡◌, ◌++◌, ◌∷◌, [], ℕ, map, refl, ap, ◌∙◌}
use Rattle.flat_spec.specs.Flattening.{pin_item}
use Rattle.flat_spec.specs.declared.item.Item.{Item}
use Rattle.design_model.specs.Items.{bit_at}
use Rattle.flat_spec.proofs.RunLemmas.{number_more}
use Rattle.design_model.proofs.items.add_port.Goals as goal

pub loop-bit-preserved : goal.loop-bit-preserved
loop-bit-preserved g c =
    let item = pin_item (g.S.Shown.design c.args.design.now) c.args.nets.now.root c.args.path.now in
    let make : ℕ → Item = λ b. item (bit_at c.args.bits.port b) in
    let pushed : c.push.new.self.items ≡ c.loop-bit.items.items ++ make c.loop-bit.bit ∷ [] =
    c.in_ok-push.ensures.items ∙ ap (λ v. c.loop-bit.items.items ++ v ∷ []) c.in_ok-item.ensures in
    number_more (λ xs. map item (map (bit_at c.args.bits.port) xs)) make (λ x xs. refl)
    c.loop-bit.bit c.args.bits.count c.loop-bit.items.items c.push.new.self.items _ c.loop-bit-test.true pushed c.loop-bit.invariant
