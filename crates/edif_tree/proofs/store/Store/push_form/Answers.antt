use Rattle.std.proofs.Common.{◌++◌, ◌∙◌, ap, drop, arith}
use Rattle.edif_tree.proofs.NodeLemmas.{form_added}
use Rattle.edif_tree.proofs.store.Store.push_form.Goals as goal

pub invariant_of-self-2 : goal.invariant_of-self-2
invariant_of-self-2 c =
    let i = c.self.inside in
    (form_added i.arguments i.words i.integers.items i.strings i.nodes.items i.loose.items c.add_list.new.nodes.items c.truncate.new.self.items c.add_node.new.nodes.items c.args.self.now c.args.place c.args.start c.in_ok-at.at c.add_list.new.lists c.add_node.result c.self.view_is c.self.invariant
    (omega (arith, c.in_ok-at.ensures, c.len.ensures)) (c.in_ok-add_list.ensures.nodes ∙ ap (λ v. i.nodes.items ++ drop c.args.start v) c.deref.ensures.value) c.in_ok-add_list.ensures.lists c.truncate.ensures.items c.add_node.ensures.ok c.add_node.ensures.err).within

pub returns : goal.returns
returns c =
    let i = c.self.inside in
    record {
      ok = (form_added i.arguments i.words i.integers.items i.strings i.nodes.items i.loose.items c.add_list.new.nodes.items c.truncate.new.self.items c.add_node.new.nodes.items c.args.self.now c.args.place c.args.start c.in_ok-at.at c.add_list.new.lists c.add_node.result c.self.view_is c.self.invariant
          (omega (arith, c.in_ok-at.ensures, c.len.ensures)) (c.in_ok-add_list.ensures.nodes ∙ ap (λ v. i.nodes.items ++ drop c.args.start v) c.deref.ensures.value) c.in_ok-add_list.ensures.lists c.truncate.ensures.items c.add_node.ensures.ok c.add_node.ensures.err).ok;
    }
