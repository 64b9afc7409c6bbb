use Rattle.std.proofs.Common.{sym, ap, ◌∙◌}
use Rattle.std.specs.Option.{option_copied}
use Rattle.netlist_schema.specs.Types.{Inst}
use Rattle.edit_spec.specs.SetProp.{set_property}
use Rattle.eco_plans.proofs.Properties.{inst_planned}
use Rattle.eco_plans.proofs.property_plans.plan_inst_property.Goals as goal

pub returns : goal.returns
returns c =
    inst_planned (option_copied c.args.contents) c.in-Some.contents.now c.args.inst.now c.args.property.now c.in-Some-inst_place.place c.at.result.now c.in_ok-inst.inst
    (ap option_copied c.in-Some.is) (sym c.in-Some-inst_place.ensures.value) c.in-Some-inst_place.ensures.within
    (c.in_ok-inst.ensures ∙ ap (λ (old : Inst). record old { properties = set_property c.args.property.now old.properties }) (c.deref.ensures ∙ c.at.ensures.is))
