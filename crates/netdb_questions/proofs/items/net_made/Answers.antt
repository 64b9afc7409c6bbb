use Rattle.std.proofs.Common.{◌∙◌, ap}
use Rattle.flat_spec.specs.Types.{NetAt}
use Rattle.flat_spec.specs.declared.item.Item.TheVariants.{Net}
use Rattle.netdb_questions.proofs.AnswerLemmas.{if_ok_more}
use Rattle.netdb_questions.proofs.items.net_made.Goals as goal

pub returns : goal.returns
returns c = if_ok_more c.made.result (λ item is. is ∙ ap (λ (v : NetAt). Net c.args.path.now c.args.net v) c.in_ok-first.ensures) c.made.ensures
