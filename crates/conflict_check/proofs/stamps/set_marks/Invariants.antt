use Rattle.std.proofs.Common.{◌≡◌, take}
use Rattle.std.specs.BTreeMap.{IsOrdered}
use Rattle.netlist_schema.specs.Order.{object_cmp}
use Rattle.netlist_schema.specs.declared.ids.Object.{Object}
use Rattle.conflict_check.specs.Marks.{mark_at, marked_at, HasEntries}
use Rattle.conflict_check.proofs.stamps.set_marks.Given as goal

abbrev pub invariant-loop-object : goal.invariant-loop-object
invariant-loop-object l =
    record {
      marked : (object : Object) → mark_at l.marks object ≡ marked_at l.initial.marks (take l.object-index l.objects) l.version object;
      room : HasEntries l.marks l.objects;
      ordered : IsOrdered object_cmp l.marks;
    }
