use Rattle.std.proofs.Common.{◌≡◌, subst}
use Rattle.std.specs.Prelude.{IfOk}
use Rattle.netlist_schema.specs.Design.{Design}
use Rattle.flat_spec.specs.Paths.{at_path}
use Rattle.flat_items.specs.Lent.{net_of as net_lent}
use Rattle.ask_spec.specs.Nets.{first_of}
use Rattle.flat_ask.proofs.ask.Ask.first_of.Goals as goal

pub first_of-requires-clause-ground : goal.first_of-requires-clause-ground
first_of-requires-clause-ground g c = rw c.get.ensures c.self.invariant.0

pub first_of-requires-clause-ways : goal.first_of-requires-clause-ways
first_of-requires-clause-ways g c = rw c.get.ensures c.self.invariant.1

pub returns : goal.returns
returns g c =
    let same : g.S.Shown.design c.get.result.now.design ≡ c.args.self.now = rw c.get.ensures c.self.view_is in
    subst (λ (d : Design). IfOk c.first_of.result (λ first. net_lent first ≡ first_of d (at_path c.args.path.now c.args.net))) same c.first_of.ensures
