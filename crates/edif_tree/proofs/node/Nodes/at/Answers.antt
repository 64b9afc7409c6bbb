use Rattle.edif_tree.specs.Ranges.{ids_of}
use Rattle.edif_tree.proofs.HereLemmas.{node_of, tree_of}
use Rattle.edif_tree.proofs.node.Nodes.at.Goals as goal

pub invariant_of-result : goal.invariant_of-result
invariant_of-result c = record { stands = node_of c.args.self.tree.now.rows (ids_of c.args.self.ids) c.args.i c.at.result c.args.self.stand c.at.ensures }

pub returns : goal.returns
returns c = tree_of c.args.self.tree.now.rows (ids_of c.args.self.ids) c.args.i c.at.result c.at.ensures
