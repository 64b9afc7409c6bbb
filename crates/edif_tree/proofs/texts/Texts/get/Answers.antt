use Rattle.std.proofs.Common.{◌∷◌, ◌-◌, ◌∙◌, ap, sym, get_or, length, take, drop, Some, arith}
use Rattle.edif_tree.proofs.StringLemmas.{count_is, text_got}
use Rattle.edif_tree.proofs.texts.Texts.get.Goals as goal

pub start_of-start-requires : goal.start_of-start-requires
start_of-start-requires c =
    let count = count_is c.self.inside.bytes.items c.self.inside.ends.items c.args.self.now c.self.view_is in
    let lent = ap length c.deref.ensures.value in
    omega (arith, c.requires)

pub index-requires : goal.index-requires
index-requires c =
    let count = count_is c.self.inside.bytes.items c.self.inside.ends.items c.args.self.now c.self.view_is in
    omega (arith, c.requires)

pub slice_bounds-result-count : goal.slice_bounds-result-count
slice_bounds-result-count c = (text_got c.self.inside.bytes.items c.self.inside.ends.items c.args.self.now c.args.at c.start_of-start.result c.index.result.now c.self.view_is c.self.invariant c.requires (c.start_of-start.ensures ∙ ap (λ v. get_or (0 ∷ v) c.args.at 0) c.deref.ensures.value) c.index.ensures).from

pub slice_bounds-result-start : goal.slice_bounds-result-start
slice_bounds-result-start c = (text_got c.self.inside.bytes.items c.self.inside.ends.items c.args.self.now c.args.at c.start_of-start.result c.index.result.now c.self.view_is c.self.invariant c.requires (c.start_of-start.ensures ∙ ap (λ v. get_or (0 ∷ v) c.args.at 0) c.deref.ensures.value) c.index.ensures).from

pub slice_bounds-result-end : goal.slice_bounds-result-end
slice_bounds-result-end c =
    let to = (text_got c.self.inside.bytes.items c.self.inside.ends.items c.args.self.now c.args.at c.start_of-start.result c.index.result.now c.self.view_is c.self.invariant c.requires (c.start_of-start.ensures ∙ ap (λ v. get_or (0 ∷ v) c.args.at 0) c.deref.ensures.value) c.index.ensures).to in
    let lent = ap length c.deref-2.ensures.value in
    omega (arith, to, lent)

pub returns : goal.returns
returns c =
    (text_got c.self.inside.bytes.items c.self.inside.ends.items c.args.self.now c.args.at c.start_of-start.result c.index.result.now c.self.view_is c.self.invariant c.requires (c.start_of-start.ensures ∙ ap (λ v. get_or (0 ∷ v) c.args.at 0) c.deref.ensures.value) c.index.ensures).is
    ∙ sym (ap (λ v. Some (take (c.index.result.now - c.start_of-start.result) (drop c.start_of-start.result v))) c.deref-2.ensures.value)
