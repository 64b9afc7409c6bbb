use Rattle.std.proofs.Common.{ap}
use Rattle.edif_tree.specs.Nodes.{WordOf, Stores}
use Rattle.edif_tree.specs.declared.stored.StoredKind.TheVariants as kinds
use Rattle.edif_tree.proofs.NodeLemmas.{added, stays, words_grow, word_read_back, made_more}
use Rattle.edif_tree.proofs.store.Store.push_word.Goals as goal

pub invariant_of-self-in_err-at-2 : goal.invariant_of-self-in_err-at-2
invariant_of-self-in_err-at-2 c =
    let s : Stores = record { arguments = c.self.inside.arguments.lists; words = c.self.inside.words; integers = c.self.inside.integers.items; strings = c.self.inside.strings } in
    let t : Stores = record { arguments = c.self.inside.arguments.lists; words = c.add.new.self; integers = c.self.inside.integers.items; strings = c.self.inside.strings } in
    made_more s t c.self.inside.arguments.end c.self.inside.nodes.items c.self.inside.loose.items (record { arguments = stays c.self.inside.arguments.lists; words = words_grow c.args.name.now c.self.inside.words c.add.new.self c.in_ok-at.ensures.keys; integers = stays c.self.inside.integers.items; strings = stays c.self.inside.strings }) c.self.invariant

pub invariant_of-self-2 : goal.invariant_of-self-2
invariant_of-self-2 c =
    let s : Stores = record { arguments = c.self.inside.arguments.lists; words = c.self.inside.words; integers = c.self.inside.integers.items; strings = c.self.inside.strings } in
    let t : Stores = record { arguments = c.self.inside.arguments.lists; words = c.add.new.self; integers = c.self.inside.integers.items; strings = c.self.inside.strings } in
    let found = word_read_back c.args.name.now c.add.new.self _ c.in_ok-at-2.at c.in_ok-at-2.ensures c.in_ok-at.ensures.stored in
    (added s t c.self.inside.arguments.end c.self.inside.nodes.items c.self.inside.loose.items c.add_node.new.nodes.items c.args.self.now c.args.place (kinds.Word c.in_ok-at-2.at) (WordOf c.args.name.now) c.add_node.result c.self.view_is c.self.invariant
    (record { arguments = stays c.self.inside.arguments.lists; words = words_grow c.args.name.now c.self.inside.words c.add.new.self c.in_ok-at.ensures.keys; integers = stays c.self.inside.integers.items; strings = stays c.self.inside.strings }) found.0 (ap WordOf found.1) c.add_node.ensures.ok c.add_node.ensures.err).within

pub returns : goal.returns
returns c =
    let s : Stores = record { arguments = c.self.inside.arguments.lists; words = c.self.inside.words; integers = c.self.inside.integers.items; strings = c.self.inside.strings } in
    let t : Stores = record { arguments = c.self.inside.arguments.lists; words = c.add.new.self; integers = c.self.inside.integers.items; strings = c.self.inside.strings } in
    let found = word_read_back c.args.name.now c.add.new.self _ c.in_ok-at-2.at c.in_ok-at-2.ensures c.in_ok-at.ensures.stored in
    record {
      ok = (added s t c.self.inside.arguments.end c.self.inside.nodes.items c.self.inside.loose.items c.add_node.new.nodes.items c.args.self.now c.args.place (kinds.Word c.in_ok-at-2.at) (WordOf c.args.name.now) c.add_node.result c.self.view_is c.self.invariant
          (record { arguments = stays c.self.inside.arguments.lists; words = words_grow c.args.name.now c.self.inside.words c.add.new.self c.in_ok-at.ensures.keys; integers = stays c.self.inside.integers.items; strings = stays c.self.inside.strings }) found.0 (ap WordOf found.1) c.add_node.ensures.ok c.add_node.ensures.err).ok;
    }
