use Rattle.std.proofs.Common.{◌≡◌, ◌∙◌, List, map, sym, ap, subst, true}
use Rattle.std.proofs.lemmas.List.{drop-map, take-map}
use Rattle.edif_tree.specs.Here.{tree_at}
use Rattle.edif_tree.specs.Order.{are_nodes}
use Rattle.edif_tree.specs.Ranges.{ids_of}
use Rattle.edif_tree.specs.declared.stored.NodeId.{NodeId}
use Rattle.edif_tree.proofs.HereLemmas.{dropped, taken}
use Rattle.edif_tree.proofs.node.Nodes.split_at.Goals as goal

pub invariant_of-result : goal.invariant_of-result
invariant_of-result c =
    let rows = c.args.self.tree.now.rows in
    let P : List NodeId → Type 0 = λ v. are_nodes rows v ≡ true in
    record { stand = subst P (sym c.split_at.ensures.front) (taken rows c.args.mid (ids_of c.args.self.ids) c.args.self.stand) }

pub invariant_of-result-2 : goal.invariant_of-result-2
invariant_of-result-2 c =
    let rows = c.args.self.tree.now.rows in
    let P : List NodeId → Type 0 = λ v. are_nodes rows v ≡ true in
    record { stand = subst P (sym c.split_at.ensures.back) (dropped rows c.args.mid (ids_of c.args.self.ids) c.args.self.stand) }

pub returns-clause-front : goal.returns-clause-front
returns-clause-front c = ap (map (tree_at c.args.self.tree.now.rows)) c.split_at.ensures.front ∙ sym (take-map (tree_at c.args.self.tree.now.rows) c.args.mid (ids_of c.args.self.ids))

pub returns-clause-back : goal.returns-clause-back
returns-clause-back c = ap (map (tree_at c.args.self.tree.now.rows)) c.split_at.ensures.back ∙ sym (drop-map (tree_at c.args.self.tree.now.rows) c.args.mid (ids_of c.args.self.ids))
