use Rattle.std.proofs.Common.{◌≡◌, ◌∙◌, sym, ap, length, arith}
use Rattle.edif_tree.proofs.NodeListLemmas.{count_of_lists}
use Rattle.edif_tree.proofs.node_lists.NodeLists.len.Goals as goal

pub returns : goal.returns
returns c =
    let count : c.len.result ≡ length c.self.inside.ends.items = omega (arith, c.len.ensures) in
    count ∙ sym (count_of_lists 0 c.self.inside.ends.items) ∙ ap (λ l. length l.lists) c.self.view_is
