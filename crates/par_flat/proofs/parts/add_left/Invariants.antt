use Rattle.std.proofs.Common.{◌≡◌, ◌++◌, length}
use Rattle.occ_walk.specs.Left.{left}
use Rattle.flat_lines_spec.specs.Lines.{shown_items}
use Rattle.flat_items.specs.Stand.{MayStand, stand_of}
use Rattle.par_flat.proofs.parts.add_left.Given as goal

abbrev pub invariant-items : goal.invariant-items
invariant-items g l = record {
  stands : MayStand l.ground (stand_of l.place);
  given : l.items.items ++ shown_items l.room (left l.ground (stand_of l.place))
      ≡ l.fn.items.items ++ shown_items l.fn.most (left l.ground (stand_of l.fn.place));
}

abbrev pub decreases-items : goal.decreases-items
decreases-items g l = length (left l.ground (stand_of l.place))
