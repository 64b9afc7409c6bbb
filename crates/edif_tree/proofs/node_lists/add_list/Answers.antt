use Rattle.std.proofs.Common.{◌≡◌, ◌++◌, ◌∙◌, ap, length, arith}
use Rattle.edif_tree.specs.NodeLists.{with_end}
use Rattle.edif_tree.proofs.node_lists.add_list.Goals as goal

pub returns-in-Ok-clause-nodes : goal.returns-in-Ok-clause-nodes
returns-in-Ok-clause-nodes c = c.in_ok-add_nodes.ensures.ok ∙ ap (λ v. c.args.nodes.now.items ++ v) c.rest.ensures

pub returns-in-Ok-clause-lists : goal.returns-in-Ok-clause-lists
returns-in-Ok-clause-lists c =
    let count : c.len.result ≡ length c.add_nodes.new.nodes.items = omega (arith, c.len.ensures) in
    c.in-Ok.ensures.ok ∙ ap (with_end c.args.lists.now) count
