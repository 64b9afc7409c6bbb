use Rattle.std.proofs.Common.{◌≡◌, ◌≤◌, ◌-◌, drop, length, true}
use Rattle.netlist_schema.specs.Hierarchy.{insts_at}
use Rattle.occ_walk.specs.Left.{left}
use Rattle.flat_items.specs.Left.{is_over}
use Rattle.flat_items.specs.Stand.{MayStand, stand_of}
use Rattle.par_parts.proofs.passing.pass_insts.Given as goal

abbrev pub invariant-insts : goal.invariant-insts
invariant-insts g l = record {
  stands : MayStand l.ground (stand_of l.place);
  over : is_over l.place.stage ≡ true;
  less : l.more ≤ l.count;
  same : drop l.more (left l.ground (stand_of l.place)) ≡ drop l.count (left l.ground (stand_of l.fn.place));
}

abbrev pub decreases-insts : goal.decreases-insts
decreases-insts g l = length (insts_at l.ground l.place.here.cell) - l.place.here.next
