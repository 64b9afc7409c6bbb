-- The names that are kept of a cell.
use Rattle.std.specs.Prelude.{◌≡◌, ℕ, List, Option, Some}
use Rattle.netlist_schema.specs.Names.{AreDistinct}
use Rattle.edif_spec.specs.Design as design
use Rattle.edif_parts.specs.Names.{ids}

-- these are the names of the ports of a cell, and those of its instances differ
pub record AreNamesOf (n : List (List ℕ × ℕ)) (c : design.CellBody) : Type 0 where
  pub ports : ids n ≡ design.port_ids c.ports
  pub insts : AreDistinct (design.inst_ids (design.insts_of c))

-- there is a cell, and these are its names
pub record AreNamesThere (o : Option design.CellBody) (n : List (List ℕ × ℕ)) : Type 0 where
  pub cell : design.CellBody
  pub there : o ≡ Some cell
  pub names : AreNamesOf n cell
