use Rattle.std.proofs.Common.{◌≡◌}
use Rattle.std.specs.BTreeSet.{contains}
use Rattle.netlist_schema.specs.Order.{cell_cmp}
use Rattle.used_keep.specs.Places.{slots_by}
use Rattle.used_keep.proofs.places.slots.Given as goal

abbrev pub invariant-loop-slot : goal.invariant-loop-slot
invariant-loop-slot l = l.slots.items ≡ slots_by (contains cell_cmp l.set) l.lib l.slot
