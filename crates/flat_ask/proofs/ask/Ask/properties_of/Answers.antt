use Rattle.std.proofs.Common.{◌≡◌, subst}
use Rattle.std.specs.Prelude.{IfOk}
use Rattle.std.specs.Option.{option_map}
use Rattle.netlist_schema.specs.Design.{Design}
use Rattle.flat_items.specs.Lent.{properties_of as properties_lent}
use Rattle.ask_spec.specs.Places.{properties_of}
use Rattle.flat_ask.proofs.ask.Ask.properties_of.Goals as goal

pub lent_properties-requires : goal.lent_properties-requires
lent_properties-requires g c = rw c.get.ensures c.self.invariant.0

pub returns : goal.returns
returns g c =
    let same : g.S.Shown.design c.get.result.now.design ≡ c.args.self.now = rw c.get.ensures c.self.view_is in
    subst (λ (d : Design). IfOk c.lent_properties.result (λ found. option_map properties_lent found ≡ properties_of d c.args.path.now)) same c.lent_properties.ensures
