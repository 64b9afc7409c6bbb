use Rattle.std.proofs.Common.{◌≡◌, ap, ◌∙◌, subst, true}
use Rattle.edif_tree.specs.Nodes.{Table}
use Rattle.edif_tree.specs.Order.{is_node}
use Rattle.edif_tree.specs.Here.{tree_at}
use Rattle.edif_tree.proofs.OneTree.{one_at}
use Rattle.edif_tree.proofs.HereLemmas.{node_stands}
use Rattle.edif_tree.proofs.tree.Tree.root.Goals as goal

pub invariant_of-result : goal.invariant_of-result
invariant_of-result c =
    let P : Table → Type 0 = λ v. is_node v.rows c.self.inside.root ≡ true in
    record { stands = subst P c.self.view_is c.self.invariant }

pub returns : goal.returns
returns c = λ t a.
    let P : Table → Type 0 = λ v. is_node v.rows v.root ≡ true in
    ap (λ v. tree_at c.args.self.now.rows v.root) c.self.view_is
    ∙ one_at (tree_at c.args.self.now.rows c.args.self.now.root) t c.args.self.now.rows c.args.self.now.root (node_stands c.args.self.now.rows c.args.self.now.root (subst P c.self.view_is c.self.invariant)) a
