-- What names say of paths and places, and these of names.
use Rattle.std.specs.Prelude.{◌≡◌, ◌↔◌, ◌⊎◌, ℕ, List, [], IsSome, Some, slice_get}
use Rattle.std.specs.Option.{option_map_or}
use Rattle.netlist_schema.specs.Design.{Design}
use Rattle.netlist_schema.specs.Hierarchy.{insts_at}
use Rattle.netlist_schema.specs.Types.{CellId, Inst, Net, Port}
use Rattle.netlist_schema.specs.Valid.{IsValid}
use Rattle.flat_spec.specs.Effective.{names_along}
use Rattle.flat_spec.specs.Paths.{cell_below_top, nets_at}
use Rattle.flat_lines_spec.specs.Lines.{path_text}
use Rattle.edit_rules_spec.specs.Find.{inst_place, net_place, port_place}
use Rattle.script_spec.specs.Lines.{path_piece}
use Rattle.script_spec.specs.Pieces.{SpellsPiece}
use Rattle.ask_names.specs.Places.{path_named, ports_at}

-- the identifiers of the instances on the path from the top
abbrev pub names_on : Design → List ℕ → List (List ℕ)
names_on d path = option_map_or (λ top. names_along d top.cell path) d.top []

-- the path has the text, as a flattening shows it or as a script spells it
abbrev pub IsTextOf : Design → List ℕ → List ℕ → Type 0
IsTextOf d path text = (text ≡ path_text d path) ⊎ SpellsPiece text (path_piece (names_on d path))

-- a text names just the path of an occurrence that has the text
abbrev pub PathsAreTold : Type 0
PathsAreTold = (d : Design) (text path : List ℕ) → IsValid d
    → (path_named d text ≡ Some path) ↔ (IsSome (cell_below_top d path) × IsTextOf d path text)

-- the path of an occurrence is found again by the text that a flattening shows of it
abbrev pub PathsAreFound : Type 0
PathsAreFound = (d : Design) (path : List ℕ) → IsValid d → IsSome (cell_below_top d path) → path_named d (path_text d path) ≡ Some path

-- an identifier leads to just the place of what has it
abbrev pub InstsAreTold : Type 0
InstsAreTold = (d : Design) (c : CellId) (name : List ℕ) (place : ℕ) → IsValid d
    → (inst_place name (insts_at d c) ≡ Some place) ↔ ((inst : Inst) × (slice_get (insts_at d c) place ≡ Some inst) × (inst.name.id ≡ name))

abbrev pub NetsAreTold : Type 0
NetsAreTold = (d : Design) (c : CellId) (name : List ℕ) (place : ℕ) → IsValid d
    → (net_place name (nets_at d c) ≡ Some place) ↔ ((net : Net) × (slice_get (nets_at d c) place ≡ Some net) × (net.name.id ≡ name))

abbrev pub PortsAreTold : Type 0
PortsAreTold = (d : Design) (c : CellId) (name : List ℕ) (place : ℕ) → IsValid d
    → (port_place name (ports_at d c) ≡ Some place) ↔ ((port : Port) × (slice_get (ports_at d c) place ≡ Some port) × (port.name.id ≡ name))
