use Rattle.std.proofs.Common.{ap, ◌∙◌}
use Rattle.edif_spelling_spec.specs.Tree.{bare}
use Rattle.edif_spec.specs.Keyword.{AForm}
use Rattle.edif_tree.specs.Handles.{here}
use Rattle.edif_grammar.specs.Rules.{choice_fits}
use Rattle.edif_grammar.proofs.RuleLemmas.{keyword_fits}
use Rattle.edif_grammar.proofs.nodes.is_form_of.Goals as goal

pub returns : goal.returns
returns c = c.is_form.ensures ∙ ap (choice_fits (AForm c.args.keyword)) c.argument_at.ensures ∙ keyword_fits c.args.keyword (bare (here c.args.node))
