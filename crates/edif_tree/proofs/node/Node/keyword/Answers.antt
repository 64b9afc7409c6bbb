use Rattle.std.proofs.Common.{sym, ◌∙◌}
use Rattle.edif_tree.specs.Handles.{here, all}
use Rattle.edif_tree.proofs.SpelledLemmas.{first_spelled, no_arguments, no_form}
use Rattle.edif_tree.proofs.node.Node.keyword.Goals as goal

pub returns-in_default : goal.returns-in_default
returns-in_default c = sym (no_form c.shape.result (here c.args.self) c.shape.ensures c.in_default.not-Form)

pub returns-in_default-split_first : goal.returns-in_default-split_first
returns-in_default-split_first c = sym (no_arguments (here c.args.self) (all c.in-Form.nodes) c.in-Form.ensures c.in_default-split_first.ensures.none)

pub returns : goal.returns
returns c = c.spelled.ensures ∙ first_spelled (here c.args.self) (here c.in-Some.first) (all c.in-Form.nodes) _ c.in-Form.ensures c.in-Some.ensures.some
