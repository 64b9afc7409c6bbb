use Rattle.std.proofs.Common.{◌∙◌, ap, []}
use Rattle.flat_spec.specs.ExampleParts.{id_of, inst}
use Rattle.gen_spec.specs.Generated.{inverter_at}
use Rattle.design_gen.proofs.Numbers.{more_in_row}
use Rattle.design_gen.proofs.design.inverters.Goals as goal

pub loop-number-preserved : goal.loop-number-preserved
loop-number-preserved c =
    more_in_row inverter_at c.loop-number.number c.loop-number.made.items c.push.new.self.items c.in_ok-of.field-0 c.loop-number.invariant
    (c.in_ok-of.ensures ∙ c.inst.ensures ∙ ap (λ id. inst id (id_of 0 0) []) c.in_ok-id.ensures) c.in_ok-push.ensures.items
