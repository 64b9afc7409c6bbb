use Rattle.std.proofs.Common.{List, ◌∙◌, ap}
use Rattle.netlist_schema.specs.Types.{Property}
use Rattle.flat_spec.specs.declared.item.Item.TheVariants.{Enter}
use Rattle.netdb_questions.proofs.AnswerLemmas.{if_ok_more}
use Rattle.netdb_questions.proofs.items.occurrence_made.Goals as goal

pub returns : goal.returns
returns c = if_ok_more c.made.result (λ item is. is ∙ ap (λ (v : List Property). Enter c.args.path.now c.args.cell v) c.in_ok-properties.ensures) c.made.ensures
