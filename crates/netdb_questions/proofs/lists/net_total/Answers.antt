use Rattle.std.proofs.Common.{[], ◌∙◌, Option, ap, length}
use Rattle.std.specs.Option.{option_map_or}
use Rattle.netlist_schema.specs.Design.{Design}
use Rattle.netlist_schema.specs.Types.{CellId}
use Rattle.flat_spec.specs.Paths.{nets_at}
use Rattle.netdb_questions.proofs.lists.net_total.Goals as goal

pub returns-in-Some : goal.returns-in-Some
returns-in-Some c =
    c.net_count.ensures
    ∙ ap (λ (d : Design). length (nets_at d c.in-Some.cell)) c.design.ensures
    ∙ ap (λ (o : Option CellId). length (option_map_or (nets_at c.args.ask.now) o [])) c.in-Some.ensures

pub returns-in-None : goal.returns-in-None
returns-in-None c = ap (λ (o : Option CellId). length (option_map_or (nets_at c.args.ask.now) o [])) c.in-None.ensures
