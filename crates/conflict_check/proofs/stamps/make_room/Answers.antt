use Rattle.std.proofs.Common.{get_or, Some, ◌∙◌}
use Rattle.netlist_schema.specs.declared.ids.Object.TheVariants.{Directory}
use Rattle.netlist_schema.proofs.Objects.{updates_by_order, ordered_by_order}
use Rattle.conflict_check.proofs.Marking.{same_marks_insert, has_entries_more}
use Rattle.conflict_check.proofs.stamps.make_room.Goals as goal

pub loop-object-preserved : goal.loop-object-preserved
loop-object-preserved c =
    let before = c.loop-object.invariant in
    let first = Directory (record { 0 = 0 }) in
    let object = get_or c.args.objects.now c.loop-object.object-index first in
    let updates = updates_by_order c.loop-object.marks c.insert.new.self object (Some c.mark_of-mark.result) c.in_ok-insert.ensures.updates in
    record {
      same = λ q. same_marks_insert c.loop-object.marks c.insert.new.self object (rw c.mark_of-mark.ensures at updates) q ∙ before.same q;
      room = has_entries_more c.loop-object.marks c.insert.new.self c.mark_of-mark.result c.args.objects.now c.loop-object.object-index first c.loop-object-test.true updates before.room;
      ordered = ordered_by_order c.insert.new.self c.in_ok-insert.ensures.ordered;
    }
