use Rattle.edif_tree.proofs.HereLemmas.{within}
use Rattle.edif_tree.proofs.SpelledLemmas.{spelled_shown}
use Rattle.edif_tree.proofs.node.Node.spelled.Goals as goal

pub keyword-requires : goal.keyword-requires
keyword-requires c = within c.args.self.tree.now.rows c.args.self.id c.args.self.stands

pub returns : goal.returns
returns c = spelled_shown c.args.self.tree.now.rows c.args.self.id c.keyword.result c.args.self.stands c.keyword.ensures
