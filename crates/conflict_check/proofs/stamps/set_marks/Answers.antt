use Rattle.std.proofs.Common.{get_or, sym, ap, ◌∙◌, Some, is_some}
use Rattle.std.proofs.lemmas.Bool.{false≢true}
use Rattle.netlist_schema.specs.declared.ids.Object.TheVariants.{Directory}
use Rattle.netlist_schema.proofs.Objects.{updates_by_order, get_by_order, ordered_by_order}
use Rattle.conflict_check.proofs.Marking.{ok_since, marked_more, has_entries_insert}
use Rattle.conflict_check.proofs.stamps.set_marks.Goals as goal

pub loop-object-preserved : goal.loop-object-preserved
loop-object-preserved c =
    let before = c.loop-object.invariant in
    let first = Directory (record { 0 = 0 }) in
    let object = get_or c.args.objects.now c.loop-object.object-index first in
    let had = ap is_some (get_by_order c.loop-object.marks object) ∙ before.room c.loop-object.object-index first c.loop-object-test.true in
    let inserted = ok_since c.insert.result _ _ c.insert.ensures.updates c.insert.ensures.absent (λ none. false≢true (ap is_some (sym none) ∙ had)) in
    let updates = updates_by_order c.loop-object.marks c.insert.new.self object (Some (Some c.later_of.result)) inserted in
    record {
      marked = marked_more c.args.marks.now c.loop-object.marks c.insert.new.self c.args.objects.now c.args.version c.loop-object.object-index first c.loop-object-test.true before.marked (rw (c.later_of.ensures, c.mark_of-mark.ensures) at updates);
      room = has_entries_insert c.loop-object.marks c.insert.new.self object (Some c.later_of.result) updates c.args.objects.now before.room;
      ordered = ordered_by_order c.insert.new.self c.insert.ensures.ordered;
    }
