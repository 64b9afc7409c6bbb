use Rattle.std.proofs.Common.{◌-◌}
use Rattle.occ_walk.specs.Left.{left}
use Rattle.flat_items.specs.Stand.{MayStand, stand_of}
use Rattle.par_flat.proofs.LineLemmas.{AreMade}
use Rattle.par_flat.proofs.lines.add_lines.Given as goal

abbrev pub invariant-lines : goal.invariant-lines
invariant-lines g l = record {
  stands : MayStand l.ground (stand_of l.place);
  made : AreMade l.ground (left l.ground (stand_of l.fn.place)) l.fn.most l.count l.text.items
      (left l.ground (stand_of l.place));
}

abbrev pub decreases-lines : goal.decreases-lines
decreases-lines g l = l.fn.most.items - l.count
