-- What walks over the same design share.
use Rattle.std.specs.Prelude.{◌≡◌}
use Rattle.netlist_schema.specs.Design.{Design}
use Rattle.netlist_schema.specs.Types.{CellId}
use Rattle.net_classes.specs.Facts.{Facts}
use Rattle.flat_items.specs.declared.notes.PlacedNotes.{PlacedNotes}
use Rattle.par_parts.specs.Items.{AreCounts}
use Rattle.par_parts.specs.declared.tables.ItemCounts.{ItemCounts}
use Rattle.flat_items.specs.Stand.{IsGround, top_of}

-- a design with a top, its ground, the counts of the cells at and below the top, and the top's cell
pub record IsCounted (d : Design) (facts : Facts) (notes : PlacedNotes) (counts : ItemCounts) (top : CellId) : Type 0 where
  pub ground : IsGround d facts notes
  pub counted : AreCounts d top counts
  pub top_is : (top_of d).cell ≡ top
