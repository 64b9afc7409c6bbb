use Rattle.std.proofs.Common.{◌≡◌, subst}
use Rattle.netlist_schema.specs.Design.{Design}
use Rattle.ask_spec.specs.Places.{at}
use Rattle.flat_ask.proofs.ask.Ask.at.Goals as goal

pub cell_at_path-requires : goal.cell_at_path-requires
cell_at_path-requires g c = rw c.get.ensures c.self.invariant.0.top

pub returns : goal.returns
returns g c =
    let same : g.S.Shown.design c.get.result.now.design ≡ c.args.self.now = rw c.get.ensures c.self.view_is in
    subst (λ (d : Design). c.cell_at_path.result ≡ at d c.args.path.now) same c.cell_at_path.ensures
