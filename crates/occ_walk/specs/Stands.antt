-- What holds of each walk.
use Rattle.netlist_schema.specs.Design.{Design}
use Rattle.net_classes.specs.Facts.{Facts}
use Rattle.flat_items.specs.declared.notes.PlacedNotes.{PlacedNotes}
use Rattle.flat_items.specs.Stand.{IsGround, MayStand, Stand}

-- it goes over a design with a top, and stands where it may
pub record IsWalk (d : Design) (facts : Facts) (notes : PlacedNotes) (s : Stand) : Type 0 where
  pub ground : IsGround d facts notes
  pub stands : MayStand d s
