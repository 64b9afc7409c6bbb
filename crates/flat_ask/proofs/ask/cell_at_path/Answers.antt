use Rattle.std.proofs.Common.{ap, ◌∙◌}
use Rattle.netlist_schema.specs.Types.{CellId}
use Rattle.flat_spec.specs.Paths.{cell_along}
use Rattle.flat_ask.proofs.AskLemmas.{at_is}
use Rattle.flat_ask.proofs.ask.cell_at_path.Goals as goal

pub returns : goal.returns
returns g c =
    let d = g.S.Shown.design c.args.design.now in
    c.cell_along.ensures ∙ ap (λ (r : CellId). cell_along d r c.args.path.now) c.top_cell.ensures ∙ at_is d c.requires c.args.path.now
