use Rattle.std.proofs.Common.{◌≡◌, subst}
use Rattle.std.specs.Prelude.{IfOk}
use Rattle.netlist_schema.specs.Design.{Design}
use Rattle.flat_spec.specs.Paths.{at_path}
use Rattle.ask_spec.specs.Roles.{loads}
use Rattle.flat_ask.proofs.ask.Ask.loads.Goals as goal

pub pins_as-requires-clause-ground : goal.pins_as-requires-clause-ground
pins_as-requires-clause-ground g c = rw c.get.ensures c.self.invariant.0

pub pins_as-requires-clause-ways : goal.pins_as-requires-clause-ways
pins_as-requires-clause-ways g c = rw c.get.ensures c.self.invariant.1

pub pins_as-requires-clause-kept : goal.pins_as-requires-clause-kept
pins_as-requires-clause-kept g c = rw (c.get.ensures, c.get-2.ensures) c.self.invariant.4

pub returns : goal.returns
returns g c =
    let same : g.S.Shown.design c.get.result.now.design ≡ c.args.self.now = rw c.get.ensures c.self.view_is in
    subst (λ (d : Design). IfOk c.pins_as.result (λ pins. pins.left ≡ loads d (at_path c.args.path.now c.args.net))) same c.pins_as.ensures
