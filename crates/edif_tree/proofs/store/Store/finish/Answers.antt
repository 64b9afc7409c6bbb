use Rattle.std.proofs.Common.{List, ℕ, ◌++◌, map, sym, ap, ◌∙◌, subst}
use Rattle.edif_tree.specs.Nodes.{AreWithin, Stores, row_of}
use Rattle.edif_tree.proofs.NodeLemmas.{all_made}
use Rattle.edif_tree.proofs.store.Store.finish.Goals as goal

pub invariant_of-result : goal.invariant_of-result
invariant_of-result c =
    let i = c.self.inside in
    let lists : List (List ℕ) → Stores = λ w. record { arguments = i.arguments.lists; words = w; integers = i.integers.items; strings = i.strings } in
    subst (λ w. AreWithin (lists w) c.extend_from_slice.new.self.items) (sym c.in_ok-words.ensures) (all_made (lists i.words) i.arguments.end i.nodes.items i.loose.items c.extend_from_slice.new.self.items c.args.self c.self.view_is c.self.invariant (c.in_ok-extend_from_slice.ensures.items ∙ ap (λ v. i.nodes.items ++ v) c.deref.ensures.value)).0

pub returns : goal.returns
returns c =
    let i = c.self.inside in
    let lists : List (List ℕ) → Stores = λ w. record { arguments = i.arguments.lists; words = w; integers = i.integers.items; strings = i.strings } in
    ap (λ w. map (row_of (lists w)) c.extend_from_slice.new.self.items) c.in_ok-words.ensures
    ∙ (all_made (lists i.words) i.arguments.end i.nodes.items i.loose.items c.extend_from_slice.new.self.items c.args.self c.self.view_is c.self.invariant (c.in_ok-extend_from_slice.ensures.items ∙ ap (λ v. i.nodes.items ++ v) c.deref.ensures.value)).1
