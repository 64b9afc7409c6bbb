use Rattle.std.proofs.Common.{take}
use Rattle.std.specs.BTreeMap.{IsOrdered}
use Rattle.netlist_schema.specs.Order.{object_cmp}
use Rattle.conflict_check.specs.Marks.{HasSameMarks, HasEntries}
use Rattle.conflict_check.proofs.stamps.make_room.Given as goal

abbrev pub invariant-loop-object : goal.invariant-loop-object
invariant-loop-object l =
    record {
      same : HasSameMarks l.initial.marks l.marks;
      room : HasEntries l.marks (take l.object-index l.objects);
      ordered : IsOrdered object_cmp l.marks;
    }
