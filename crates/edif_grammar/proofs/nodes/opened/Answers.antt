use Rattle.edif_tree.specs.Handles.{here, all}
use Rattle.edif_grammar.proofs.NodeForms.{opens, opens_empty, opens_otherwise}
use Rattle.edif_grammar.proofs.nodes.opened.Goals as goal

pub returns-in_default-split_first-clause-none : goal.returns-in_default-split_first-clause-none
returns-in_default-split_first-clause-none c = opens_empty (here c.args.node) (all c.in-Form.nodes) c.in-Form.ensures c.in_default-split_first.ensures.none

pub returns-in_default-shape-clause-none : goal.returns-in_default-shape-clause-none
returns-in_default-shape-clause-none c = opens_otherwise c.shape-2.result (here c.args.node) (here c.in-Some.first) (all c.in-Form.nodes) (all c.in-Some.arguments) c.in-Form.ensures c.in-Some.ensures.some c.shape-2.ensures c.in_default-shape.not-Word

pub returns-clause-some : goal.returns-clause-some
returns-clause-some c = opens (here c.args.node) (here c.in-Some.first) (all c.in-Form.nodes) (all c.in-Some.arguments) c.in-Word.name.now c.in-Form.ensures c.in-Some.ensures.some c.in-Word.ensures
