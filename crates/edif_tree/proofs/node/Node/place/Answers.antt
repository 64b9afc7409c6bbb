use Rattle.edif_tree.specs.Handles.{here}
use Rattle.edif_tree.proofs.NodeLemmas.{place_read}
use Rattle.edif_tree.proofs.HereLemmas.{node_stands, within}
use Rattle.edif_tree.proofs.node.Node.place.Goals as goal

pub place-requires : goal.place-requires
place-requires c = within c.args.self.tree.now.rows c.args.self.id c.args.self.stands

pub returns : goal.returns
returns c = place_read c.args.self.tree.now.rows c.args.self.id (here c.args.self) c.place.result c.place.ensures (node_stands c.args.self.tree.now.rows c.args.self.id c.args.self.stands)
