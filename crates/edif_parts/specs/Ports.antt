-- The name of a port or of a net, with the width of an array.
use Rattle.std.specs.Prelude.{◌≡◌, IfSome, Some}
use Rattle.edif_spelling_spec.specs.Tree.{Placed, bare}
use Rattle.netlist_schema.specs.Typed.{IsTypedName}
use Rattle.netlist_schema.specs.Width.{IsWidth}
use Rattle.edif_spec.specs.Faults.{bus_name_of}
pub use Rattle.edif_spec.specs.Keyword.{bus_name}
use Rattle.edif_spec.specs.Means.{MeansBusName}
use Rattle.edif_parts.specs.declared.ports.BusName.{BusName}

-- the name and the width that a tree means, and the place of its identifier
pub record ReadBusName (t : Placed) (n : BusName) : Type 0 where
  pub means : MeansBusName (bare t) n.name n.array
  pub typed : IsTypedName n.name
  pub width : IfSome n.array IsWidth
  pub at : bus_name_of t ≡ Some (n.name.id, n.place)
