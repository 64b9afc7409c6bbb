use Rattle.std.proofs.Common.{◌≡◌, ◌∷◌, ◌++◌, ◌∙◌, [], ℤ, pos, ap, sym, subst, length, arith}
use Rattle.std.specs.Int.{w64}
use Rattle.std.specs.Prelude.{FitsSigned}
use Rattle.std.proofs.lemmas.Int.{to_z-of_z}
use Rattle.edif_tree.specs.Nodes.{IntegerOf, Stores}
use Rattle.edif_tree.specs.declared.stored.StoredKind.TheVariants as kinds
use Rattle.edif_tree.proofs.NodeLemmas.{added, stays, read_last}
use Rattle.edif_tree.proofs.store.Store.push_integer.Goals as goal

pub invariant_of-self-2 : goal.invariant_of-self-2
invariant_of-self-2 c =
    let s : Stores = record { arguments = c.self.inside.arguments.lists; words = c.self.inside.words; integers = c.self.inside.integers.items; strings = c.self.inside.strings } in
    let t : Stores = record { arguments = c.self.inside.arguments.lists; words = c.self.inside.words; integers = c.push.new.self.items; strings = c.self.inside.strings } in
    let ok = c.self.inside.integers.ok.0 in
    let at : c.in_ok-at.at ≡ length c.self.inside.integers.items = omega (arith, c.in_ok-at.ensures, c.len.ensures) in
    let items : c.push.new.self.items ≡ c.self.inside.integers.items ++ c.args.value ∷ [] = c.in_ok-push.ensures.items ∙ ap (λ v. c.self.inside.integers.items ++ v ∷ []) (to_z-of_z w64 c.args.value c.ranges.value) in
    let F : ℤ → Type 0 = FitsSigned w64 in
    let last = read_last (pos 0) c.args.value c.self.inside.integers.items c.push.new.self.items c.in_ok-at.at items at in
    (added s t c.self.inside.arguments.end c.self.inside.nodes.items c.self.inside.loose.items c.add_node.new.nodes.items c.args.self.now c.args.place (kinds.Integer c.in_ok-at.at) (IntegerOf c.args.value) c.add_node.result c.self.view_is c.self.invariant
    (record { arguments = stays c.self.inside.arguments.lists; words = stays c.self.inside.words; integers = (c.args.value ∷ [], items); strings = stays c.self.inside.strings }) (last.0, subst F (sym last.1) c.ranges.value) (ap IntegerOf last.1) c.add_node.ensures.ok c.add_node.ensures.err).within

pub returns : goal.returns
returns c =
    let s : Stores = record { arguments = c.self.inside.arguments.lists; words = c.self.inside.words; integers = c.self.inside.integers.items; strings = c.self.inside.strings } in
    let t : Stores = record { arguments = c.self.inside.arguments.lists; words = c.self.inside.words; integers = c.push.new.self.items; strings = c.self.inside.strings } in
    let ok = c.self.inside.integers.ok.0 in
    let at : c.in_ok-at.at ≡ length c.self.inside.integers.items = omega (arith, c.in_ok-at.ensures, c.len.ensures) in
    let items : c.push.new.self.items ≡ c.self.inside.integers.items ++ c.args.value ∷ [] = c.in_ok-push.ensures.items ∙ ap (λ v. c.self.inside.integers.items ++ v ∷ []) (to_z-of_z w64 c.args.value c.ranges.value) in
    let F : ℤ → Type 0 = FitsSigned w64 in
    let last = read_last (pos 0) c.args.value c.self.inside.integers.items c.push.new.self.items c.in_ok-at.at items at in
    record {
      ok = (added s t c.self.inside.arguments.end c.self.inside.nodes.items c.self.inside.loose.items c.add_node.new.nodes.items c.args.self.now c.args.place (kinds.Integer c.in_ok-at.at) (IntegerOf c.args.value) c.add_node.result c.self.view_is c.self.invariant
          (record { arguments = stays c.self.inside.arguments.lists; words = stays c.self.inside.words; integers = (c.args.value ∷ [], items); strings = stays c.self.inside.strings }) (last.0, subst F (sym last.1) c.ranges.value) (ap IntegerOf last.1) c.add_node.ensures.ok c.add_node.ensures.err).ok;
    }
