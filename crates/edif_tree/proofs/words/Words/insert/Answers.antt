use Rattle.std.proofs.Common.{List, ℕ, get_or, ap, ◌∙◌}
use Rattle.edif_spec.specs.Keyword.{keyword}
use Rattle.edif_tree.proofs.WordLemmas.{keywords_grow, word_put, words_added}
use Rattle.edif_tree.proofs.words.Words.insert.Goals as goal

pub invariant_of-self-2 : goal.invariant_of-self-2
invariant_of-self-2 c =
    let name : List ℕ = c.args.name in
    let old : List (List ℕ) = c.self.inside.names.keys in
    let new : List (List ℕ) = c.insert_full.new.self.keys in
    let put = words_added name old new c.in_ok-at.is_new c.in_ok-at.ensures.added c.in_ok-at.ensures.keys c.if-not-is_new.false in
    let read = word_put name c.index-as_slice-at.result new c.in_ok-at.at c.in_ok-at.ensures.stored (c.index-as_slice-at.is ∙ ap (λ l. get_or l c.in_ok-at.at c.index-as_slice-at.result) c.as_slice.ensures.keys) in
    keywords_grow name old new c.reserve.new.self.items c.push_reserved.new.self.items c.keyword-found.result (c.in_ok-reserve.ensures.items ∙ c.self.invariant) c.push_reserved.ensures.items (c.keyword-found.ensures ∙ ap keyword read) put
