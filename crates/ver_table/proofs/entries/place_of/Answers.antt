use Rattle.std.proofs.Common.{rules}
use Rattle.std.specs.Arc.{arc_value}
use Rattle.std.proofs.lemmas.List.Sorted.{answers_always}
use Rattle.ver_table.proofs.Places.{searched}
use Rattle.ver_table.proofs.entries.place_of.Goals as goal

pub returns : goal.returns
returns g c =
    let facts = c.binary_search_by_key.ensures in
    let by_slot = facts.position (λ entry. entry.slot) (answers_always _ _ _ (λ f a r h called. search rules)) in
    searched (λ entry. (entry.slot, arc_value entry.item)) c.args.entries.now c.requires c.args.slot c.binary_search_by_key.result facts.bound by_slot
