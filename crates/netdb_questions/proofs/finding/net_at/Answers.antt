use Rattle.std.proofs.Common.{[], ◌∙◌, Option, ap}
use Rattle.std.specs.Option.{option_map_or}
use Rattle.netlist_schema.specs.Types.{CellId}
use Rattle.edit_rules_spec.specs.Find.{net_place}
use Rattle.flat_spec.specs.Paths.{nets_at}
use Rattle.netdb_questions.proofs.finding.net_at.Goals as goal

pub returns-in-Some : goal.returns-in-Some
returns-in-Some c = c.net.ensures ∙ ap (λ (o : Option CellId). net_place c.args.name.now (option_map_or (nets_at c.args.names.now) o [])) c.in-Some.ensures

pub returns-in-None : goal.returns-in-None
returns-in-None c = ap (λ (o : Option CellId). net_place c.args.name.now (option_map_or (nets_at c.args.names.now) o [])) c.in-None.ensures
