use Rattle.edif_tree.specs.Handles.{here}
use Rattle.edif_grammar.proofs.FormLemmas.{all_parts, all_faults}
use Rattle.edif_grammar.proofs.lent.parts_of.Goals as goal

pub returns-clause-ok : goal.returns-clause-ok
returns-clause-ok c = all_parts c.args.parent c.in_ok-keyword.keyword (here c.args.node) c.check_row.result c.in_ok-keyword.ensures.ok.1 c.check_row.ensures.ok

pub returns-clause-err : goal.returns-clause-err
returns-clause-err c = all_faults c.args.parent c.in_ok-keyword.keyword (here c.args.node) c.check_row.result c.in_ok-keyword.ensures.ok.0 c.in_ok-keyword.ensures.ok.1 c.check_row.ensures.err
