use Rattle.std.proofs.Common.{sym, ◌∙◌}
use Rattle.ask_names.proofs.TextLemmas.{no_text, with_slash, without_slash}
use Rattle.ask_names.proofs.texts.behind_slash.Goals as goal

pub returns-then-is_slash : goal.returns-then-is_slash
returns-then-is_slash c = with_slash c.args.text.now c.in-Some.first.now c.in-Some.rest.now c.in-Some.ensures.cases.0 (sym c.is_slash.ensures ∙ c.if-is_slash.true)

pub returns-else-is_slash : goal.returns-else-is_slash
returns-else-is_slash c = without_slash c.args.text.now c.in-Some.first.now c.in-Some.rest.now c.in-Some.ensures.cases.0 (sym c.is_slash.ensures ∙ c.if-is_slash.false)

pub returns-in-None : goal.returns-in-None
returns-in-None c = no_text c.args.text.now c.in-None.ensures.cases
