use Rattle.std.proofs.Common.{sym, ap, ◌∙◌, nat_eq, true, false, Some, cond, is_some}
use Rattle.indexmap.specs.IndexMap.{get}
use Rattle.netlist_schema.specs.Marks.{hash_of}
use Rattle.edif_names.specs.declared.folded.Spot.{Spot}
use Rattle.edif_names.proofs.FoldedLemmas.{added_alone, added_beside}
use Rattle.edif_names.proofs.folded.Folded.add.Goals as goal

pub returns-in-Some-clause-ok : goal.returns-in-Some-clause-ok
returns-in-Some-clause-ok c = λ ns n long named old.
    let w : Spot = record { first = c.in-Some.spot.now.first; is_alone = false } in
    added_beside ns n c.args.self.now (record { spots = c.get_mut.follows.lender w }) c.hash_of-hash.result c.in-Some.spot.now
    (c.hash_of-hash.ensures ∙ ap hash_of (c.as_slice.ensures.value ∙ sym named))
    (sym c.in-Some.ensures.value)
    ((c.get_mut.follows.holds w).3 (ap is_some (sym c.in-Some.ensures.value))).0
    old

pub returns-in_ok-insert-in-None-clause-ok : goal.returns-in_ok-insert-in-None-clause-ok
returns-in_ok-insert-in-None-clause-ok c = λ ns n long named old.
    let w : Spot = record { first = c.args.place; is_alone = true } in
    added_alone ns n c.args.self.now (record { spots = c.insert.new.self }) c.hash_of-hash.result c.args.place
    (c.hash_of-hash.ensures ∙ ap hash_of (c.as_slice.ensures.value ∙ sym named))
    long
    (sym c.in-None.ensures.value)
    (λ k. c.in_ok-insert-in-None.ensures.updates.0 k ∙ ap (λ m. cond (nat_eq c.hash_of-hash.result k) (Some w) (get nat_eq m k)) c.get_mut.follows.holds-at-none)
    old
