use Rattle.std.proofs.Common.{◌≡◌, ◌≤◌, ◌<◌, List, Option, Some, None, arith, get_or, length, subst, sym, take, true, ap, ◌∙◌, ℕ}
use Rattle.std.specs.Prelude.{is_some}
use Rattle.std.specs.List.{list_any}
use Rattle.std.proofs.lemmas.List.{get_or_default}
use Rattle.netlist_schema.specs.Types.{Inst, Note}
use Rattle.ungroup_plans.specs.Moved.{notes_moved}
use Rattle.ungroup_plans.proofs.MovedLemmas.{moved_all, moved_more}
use Rattle.ungroup_plans.proofs.notes.moved_notes.Goals as goal

pub loop-k-preserved : goal.loop-k-preserved
loop-k-preserved c =
    let places = c.args.places.now in
    let k = c.loop-k.k in
    let place : Option ℕ = get_or places k None in
    let inside = subst (λ n. k < n) (sym c.requires.long) c.loop-k-test.true in
    let at : place ≡ get_or places k place = get_or_default places k None place inside in
    moved_more c.args.within.now c.as_slice-children.result.now c.args.notes.now places k c.index-notes-k.result place c.loop-k.made.items c.add_moved.new.made.items c.loop-k-test.true c.requires.long c.index-notes-k.is at
    (c.in_ok-add_moved.ensures c.args.within.now c.in_ok-by_name.ensures) c.loop-k.invariant

pub returns : goal.returns
returns c =
    let notes = c.args.notes.now in
    let places = c.args.places.now in
    let within = c.args.within.now in
    let children = c.as_slice-children.result.now in
    let kids : children ≡ take (length within) c.args.behind = c.as_slice-children.ensures.value ∙ c.in_ok-kids.ensures ∙ ap (λ (n : ℕ). take n c.args.behind) c.len.ensures in
    let some : list_any is_some places ≡ true = sym c.has_place.ensures ∙ c.if-not-has_place.false in
    let past : length notes ≤ c.loop-k.k = omega (arith, c.loop-k-test.false) in
    ap (λ (v : List Note). Some v) c.of.ensures
    ∙ moved_all within children notes places c.loop-k.k c.loop-k.made.items past some c.loop-k.invariant
    ∙ ap (λ (v : List Inst). notes_moved within v notes places) kids
