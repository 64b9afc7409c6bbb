-- What stands at a path.
use Rattle.std.specs.Prelude.{ℕ, List, [], Option, option_and_then}
use Rattle.std.specs.Option.{option_map, option_map_or}
use Rattle.netlist_schema.specs.Design.{Design, cell_at}
use Rattle.netlist_schema.specs.Hierarchy.{insts_at}
use Rattle.netlist_schema.specs.Types.{CellId, Inst, Net, Property}
use Rattle.flat_spec.specs.Effective.{effective}
use Rattle.flat_spec.specs.Paths.{Bit, cell_along, nets_at}
use Rattle.flat_spec.specs.Pins.{shown_bits}

-- the cell of the occurrence at the path, none where there is no such occurrence
abbrev pub at : Design → List ℕ → Option CellId
at d path = option_and_then (λ top. cell_along d top.cell path) d.top

-- its effective properties
abbrev pub properties_of : Design → List ℕ → Option (List Property)
properties_of d path = option_and_then (λ top. option_map (λ c. effective d top path) (cell_along d top.cell path)) d.top

-- the instances and the nets in the occurrence, in the order of the contents; none of a leaf, and none where there is no occurrence
abbrev pub insts_of : Design → List ℕ → List Inst
insts_of d path = option_map_or (insts_at d) (at d path) []

abbrev pub nets_of : Design → List ℕ → List Net
nets_of d path = option_map_or (nets_at d) (at d path) []

-- the bits whose pins the occurrence shows: those of the top, and those of a leaf
abbrev pub bits_of : Design → List ℕ → List Bit
bits_of d path = option_map_or (shown_bits path) (option_and_then (cell_at d) (at d path)) []
