use Rattle.std.proofs.Common.{◌-◌, ◌<◌, ◌∷◌, ◌∙◌, ℕ, List, ap, sym, length, get_or, Some, arith}
use Rattle.std.specs.Prelude.{slice_get}
use Rattle.std.proofs.lemmas.List.{get_or_default}
use Rattle.edif_tree.specs.Ranges.{ids_from}
use Rattle.edif_tree.proofs.NodeListLemmas.{count_of_lists, list_at}
use Rattle.edif_tree.proofs.node_lists.NodeLists.get.Goals as goal

pub end_before-requires : goal.end_before-requires
end_before-requires c =
    let count = count_of_lists 0 c.self.inside.ends.items in
    let seen = ap (λ l. length l.lists) c.self.view_is in
    let lent = ap length c.deref.ensures.value in
    omega (arith, c.requires)

pub index-requires : goal.index-requires
index-requires c =
    let count = count_of_lists 0 c.self.inside.ends.items in
    let seen = ap (λ l. length l.lists) c.self.view_is in
    omega (arith, c.requires)

pub returns : goal.returns
returns c =
    let ends : List ℕ = c.self.inside.ends.items in
    let at = c.args.at in
    let count = count_of_lists 0 ends in
    let seen = ap (λ l. length l.lists) c.self.view_is in
    let within : at < length ends = omega (arith, c.requires) in
    let first = c.end_before.ensures ∙ ap (λ v. get_or (0 ∷ v) at 0) c.deref.ensures.value in
    let end = c.index.ensures ∙ get_or_default ends at _ 0 within in
    ap (λ l. slice_get l.lists at) (sym c.self.view_is) ∙ (list_at 0 ends at within
    ∙ sym (ap (λ n. Some (ids_from n (c.index.result.now - n))) first ∙ ap (λ n. Some (ids_from (get_or (0 ∷ ends) at 0) (n - get_or (0 ∷ ends) at 0))) end))
