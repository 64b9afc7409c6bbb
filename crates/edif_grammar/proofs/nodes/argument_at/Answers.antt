use Rattle.std.proofs.Common.{ap, sym, ◌∙◌}
use Rattle.edif_tree.specs.Handles.{here, all}
use Rattle.edif_grammar.specs.Rules.{with_keyword}
use Rattle.edif_grammar.proofs.NodeForms.{keyword_told}
use Rattle.edif_grammar.proofs.nodes.argument_at.Goals as goal

pub returns-in-Some : goal.returns-in-Some
returns-in-Some c = sym (keyword_told (here c.args.node) (all c.in-Form.field-0) c.in-Form.ensures ∙ ap with_keyword (sym c.keyword.ensures ∙ c.in-Some.is))

pub returns-in-None : goal.returns-in-None
returns-in-None c = sym (keyword_told (here c.args.node) (all c.in-Form.field-0) c.in-Form.ensures ∙ ap with_keyword (sym c.keyword.ensures ∙ c.in-None.is))
