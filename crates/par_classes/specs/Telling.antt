-- What is told of cells so far.
use Rattle.std.specs.Prelude.{◌≡◌, List, true}
use Rattle.std.specs.List.{Contains}
use Rattle.netlist_schema.specs.Design.{Design}
use Rattle.netlist_schema.specs.Hierarchy.{IsCell}
use Rattle.netlist_schema.specs.Types.{CellId}
use Rattle.flat_cells.specs.Marks.{is_marked}
use Rattle.flat_cells.specs.declared.marks.CellMarks.{CellMarks}
use Rattle.net_classes.specs.Facts.{Facts, facts_of}
use Rattle.net_classes.specs.Known.{AreKnown, AreTold}
use Rattle.par_classes.specs.declared.told.ToldCell.{ToldCell}

-- some of these cells are told, and among them all that are marked
pub record IsTelling (d : Design) (below : List CellId) (marks : CellMarks) (facts : Facts) : Type 0 where
  pub done : List CellId
  pub known : AreKnown d done facts
  pub marked : (c : CellId) → is_marked marks c ≡ true → Contains done c
  pub within : (c : CellId) → Contains done c → Contains below c

-- what is to be told of one of these cells is so in its tree
pub record IsTold (d : Design) (below : List CellId) (t : ToldCell) : Type 0 where
  pub there : IsCell d t.cell
  pub among : Contains below t.cell
  pub told : AreTold d t.cell (facts_of t.nets)
