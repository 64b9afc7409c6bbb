use Rattle.std.proofs.Common.{◌≡◌, subst}
use Rattle.std.specs.Prelude.{IfOk}
use Rattle.std.specs.Option.{option_map}
use Rattle.netlist_schema.specs.Design.{Design}
use Rattle.flat_items.specs.Lent.{net_of as net_lent}
use Rattle.ask_spec.specs.Nets.{net_of}
use Rattle.flat_ask.proofs.ask.Ask.net_of.Goals as goal

pub net_joined-requires-clause-ground : goal.net_joined-requires-clause-ground
net_joined-requires-clause-ground g c = rw c.get.ensures c.self.invariant.0

pub net_joined-requires-clause-ways : goal.net_joined-requires-clause-ways
net_joined-requires-clause-ways g c = rw c.get.ensures c.self.invariant.1

pub returns : goal.returns
returns g c =
    let same : g.S.Shown.design c.get.result.now.design ≡ c.args.self.now = rw c.get.ensures c.self.view_is in
    subst (λ (d : Design). IfOk c.net_joined.result (λ found. option_map net_lent found ≡ net_of d c.args.path.now c.args.port c.args.bit)) same c.net_joined.ensures
