-- The two objects of a cell.
use Rattle.netlist_schema.specs.Types.{CellId, Object}
use Rattle.netlist_schema.specs.declared.ids.Object.TheVariants.{Interface, Contents}

-- a cell as seen from outside
abbrev pub face_object : CellId → Object
face_object id = Interface id

-- what is in a cell
abbrev pub contents_object : CellId → Object
contents_object id = Contents id
