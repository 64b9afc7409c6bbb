use Rattle.std.proofs.Common.{[], ◌∙◌, Option, ap}
use Rattle.std.specs.Option.{option_map_or}
use Rattle.netlist_schema.specs.Types.{CellId}
use Rattle.ask_names.specs.Places.{ports_at}
use Rattle.netdb_questions.specs.Named.{bit_place}
use Rattle.netdb_questions.proofs.finding.bit_there.Goals as goal

pub returns-in-Some : goal.returns-in-Some
returns-in-Some c = c.bit_in.ensures ∙ ap (λ (o : Option CellId). bit_place c.args.name.now c.args.bit (option_map_or (ports_at c.args.names.now) o [])) c.in-Some.ensures

pub returns-in-None : goal.returns-in-None
returns-in-None c = ap (λ (o : Option CellId). bit_place c.args.name.now c.args.bit (option_map_or (ports_at c.args.names.now) o [])) c.in-None.ensures
