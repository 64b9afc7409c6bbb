use Rattle.std.proofs.Common.{sym, ap, ◌∙◌}
use Rattle.std.specs.Option.{option_copied}
use Rattle.netlist_schema.specs.Types.{Net}
use Rattle.edit_spec.specs.SetProp.{set_property}
use Rattle.eco_plans.proofs.Properties.{net_planned}
use Rattle.eco_plans.proofs.property_plans.plan_net_property.Goals as goal

pub returns : goal.returns
returns c =
    net_planned (option_copied c.args.contents) c.in-Some.contents.now c.args.net.now c.args.property.now c.in-Some-net_place.place c.at.result.now c.in_ok-net.net
    (ap option_copied c.in-Some.is) (sym c.in-Some-net_place.ensures.value) c.in-Some-net_place.ensures.within
    (c.in_ok-net.ensures ∙ ap (λ (old : Net). record old { properties = set_property c.args.property.now old.properties }) (c.deref.ensures ∙ c.at.ensures.is))
