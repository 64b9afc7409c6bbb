-- What the fields of a version stand for.
use Rattle.std.specs.Prelude.{◌≡◌, map}
use Rattle.std.specs.Arc.{arc_value}
use Rattle.std.specs.FinMap.{values}
use Rattle.ver_table.specs.Rows.{Lists}
use Rattle.netlist_schema.specs.Design.{Design}
use Rattle.netlist_schema.specs.Names.{cell_names}
use Rattle.netlist_schema.specs.Types.{Lib}
use Rattle.db_version.specs.declared.shelf.Shelf.TheInside.{Inside as ShelfInside}
use Rattle.db_version.specs.declared.version.Version.TheInside.{Inside as VersionInside}

-- the library with this head, whose cells are the items of the table, by their slots
abbrev pub lib_of : ShelfInside → Lib
lib_of shelf = record { head = arc_value shelf.head; cells = values shelf.cells }

-- the slots are the places of the cells, and the directory has the cells' names
pub record IsShelf (shelf : ShelfInside) : Type 0 where
  pub listed : Lists shelf.cells (values shelf.cells)
  pub named : arc_value shelf.directory ≡ cell_names (values shelf.cells)

-- the design of these parts
abbrev pub design_of : VersionInside → Design
design_of version = record {
  title = (arc_value version.heads).title;
  libs = map arc_value version.shelves.items;
  top = (arc_value version.heads).top;
  notes = arc_value version.notes;
}
