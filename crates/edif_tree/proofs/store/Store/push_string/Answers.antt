use Rattle.std.proofs.Common.{◌≡◌, ◌∷◌, [], ap, length, arith}
use Rattle.edif_tree.specs.Nodes.{StringOf, Stores}
use Rattle.edif_tree.specs.declared.stored.StoredKind.TheVariants as kinds
use Rattle.edif_tree.proofs.NodeLemmas.{added, stays, read_last}
use Rattle.edif_tree.proofs.store.Store.push_string.Goals as goal

pub invariant_of-self-2 : goal.invariant_of-self-2
invariant_of-self-2 c =
    let s : Stores = record { arguments = c.self.inside.arguments.lists; words = c.self.inside.words; integers = c.self.inside.integers.items; strings = c.self.inside.strings } in
    let t : Stores = record { arguments = c.self.inside.arguments.lists; words = c.self.inside.words; integers = c.self.inside.integers.items; strings = c.push.new.self } in
    let at : c.in_ok-at.at ≡ length c.self.inside.strings = omega (arith, c.in_ok-at.ensures, c.len.ensures) in
    let last = read_last [] c.args.text.now c.self.inside.strings c.push.new.self c.in_ok-at.at c.in_ok-push.ensures.ok at in
    (added s t c.self.inside.arguments.end c.self.inside.nodes.items c.self.inside.loose.items c.add_node.new.nodes.items c.args.self.now c.args.place (kinds.String c.in_ok-at.at) (StringOf c.args.text.now) c.add_node.result c.self.view_is c.self.invariant
    (record { arguments = stays c.self.inside.arguments.lists; words = stays c.self.inside.words; integers = stays c.self.inside.integers.items; strings = (c.args.text.now ∷ [], c.in_ok-push.ensures.ok) }) last.0 (ap StringOf last.1) c.add_node.ensures.ok c.add_node.ensures.err).within

pub returns : goal.returns
returns c =
    let s : Stores = record { arguments = c.self.inside.arguments.lists; words = c.self.inside.words; integers = c.self.inside.integers.items; strings = c.self.inside.strings } in
    let t : Stores = record { arguments = c.self.inside.arguments.lists; words = c.self.inside.words; integers = c.self.inside.integers.items; strings = c.push.new.self } in
    let at : c.in_ok-at.at ≡ length c.self.inside.strings = omega (arith, c.in_ok-at.ensures, c.len.ensures) in
    let last = read_last [] c.args.text.now c.self.inside.strings c.push.new.self c.in_ok-at.at c.in_ok-push.ensures.ok at in
    record {
      ok = (added s t c.self.inside.arguments.end c.self.inside.nodes.items c.self.inside.loose.items c.add_node.new.nodes.items c.args.self.now c.args.place (kinds.String c.in_ok-at.at) (StringOf c.args.text.now) c.add_node.result c.self.view_is c.self.invariant
          (record { arguments = stays c.self.inside.arguments.lists; words = stays c.self.inside.words; integers = stays c.self.inside.integers.items; strings = (c.args.text.now ∷ [], c.in_ok-push.ensures.ok) }) last.0 (ap StringOf last.1) c.add_node.ensures.ok c.add_node.ensures.err).ok;
    }
