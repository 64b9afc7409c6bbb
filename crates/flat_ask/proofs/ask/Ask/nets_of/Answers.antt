use Rattle.std.proofs.Common.{◌≡◌, [], ◌∙◌, Option, ap}
use Rattle.std.specs.Option.{option_map_or}
use Rattle.netlist_schema.specs.Design.{Design}
use Rattle.flat_spec.specs.Paths.{nets_at}
use Rattle.netlist_schema.specs.Types.{CellId}
use Rattle.flat_ask.proofs.ask.Ask.nets_of.Goals as goal

pub returns : goal.returns
returns g c =
    let same : g.S.Shown.design c.get.result.now.design ≡ c.args.self.now = rw c.get.ensures c.self.view_is in
    c.nets_at.ensures.value ∙ ap (λ (d : Design). nets_at d c.in-Some.cell) same ∙ ap (λ (o : Option CellId). option_map_or (nets_at c.args.self.now) o []) c.in-Some.ensures
