-- The joints of each cell that lead to pins, by the first net inside of their nets.
use Rattle.std.specs.Prelude.{◌≡◌, ℕ, List, [], ◌∷◌, length, Bool, true, false, ◌&&◌, ◌||◌, not, is_none, nat_eq, if◌then◌else◌, slice_get, option_and_then, map, Option, Some, IsSome}
use Rattle.std.specs.List.{Contains}
use Rattle.std.specs.Option.{option_eq, option_map_or}
use Rattle.netlist_schema.specs.Design.{Design, cell_at}
use Rattle.netlist_schema.specs.Hierarchy.{IsCell, insts_at}
use Rattle.netlist_schema.specs.Types.{CellBody, CellId, Direction}
use Rattle.flat_spec.specs.Paths.{Bit}
use Rattle.erc_spec.specs.Drives.{is_either, is_input, is_output}
use Rattle.ask_spec.specs.declared.role.Role.{Role}
use Rattle.ask_spec.specs.declared.role.Role.TheVariants.{Any, Driver, Load}
use Rattle.net_classes.specs.Facts.{Facts, first_at}
use Rattle.net_classes.specs.declared.joints.Joint.{Joint}
use Rattle.net_rows.specs.Lists.{AreParted}
use Rattle.net_ways.specs.Ways.{firsts_in, joints_in}
use Rattle.net_rows.specs.declared.rows.CellRows.{CellRows}

-- a list for each first net, as plain lists
abbrev pub lists_of : CellRows → List (List Joint)
lists_of c = map (λ row. row.items) c.by_first.items

-- of all cells, by library and place
abbrev pub Table : Type 0
Table = List (List (List (List Joint)))

-- what is kept of a cell
abbrev pub lists_at : Table → CellId → Option (List (List Joint))
lists_at cells c = option_and_then (λ row. slice_get row c.slot) (slice_get cells c.lib.0)

-- the joints of a first net of a cell
abbrev pub joints_of : Table → CellId → ℕ → List Joint
joints_of cells c f = option_map_or (λ js. js) (option_and_then (λ lists. slice_get lists f) (lists_at cells c)) []

-- a pin of a port with that direction stands so at its net: one of the top, or one of a leaf below it
abbrev pub port_stands : Role → Bool → Option Direction → Bool
port_stands Any at_top direction = true
port_stands Driver at_top direction = (if at_top then is_input direction else is_output direction) || is_either direction
port_stands Load at_top direction = not (if at_top then is_input direction else is_output direction)

-- the direction of a port
abbrev pub direction_in : CellBody → ℕ → Option Direction
direction_in body port = option_and_then (λ p. p.direction) (slice_get body.ports port)

abbrev pub has_joints : List Joint → Bool
has_joints [] = false
has_joints (j ∷ joints) = true

-- the own bit of the cell leads to such a pin: of a leaf by its port, else by what is kept of the cell for the first net inside
abbrev pub bit_leads : Role → Facts → Table → CellId → CellBody → Bit → Bool
bit_leads role facts cells c body b =
    if is_none body.contents then port_stands role false (direction_in body b.port)
    else option_map_or (λ first. has_joints (joints_of cells c first)) (first_at facts c b) false

-- the joint of the cell leads to such a pin
abbrev pub leads : Role → Design → Facts → Table → CellId → Joint → Bool
leads role d facts cells c j =
    option_map_or
    (λ inst. option_map_or (λ body. bit_leads role facts cells inst.of body (record { port = j.port; bit = j.bit })) (cell_at d inst.of) false)
    (slice_get (insts_at d c) j.inst) false

-- the joint's net has this first net, and the joint leads to such a pin
abbrev pub is_in_row : Role → Design → Facts → Table → CellId → ℕ → Joint → Bool
is_in_row role d facts cells c f j = leads role d facts cells c j && option_eq nat_eq (slice_get (firsts_in facts c) j.net) (Some f)

-- for each first net of the cell its joints, in order
abbrev pub AreListsOf : Role → Design → Facts → Table → CellId → List (List Joint) → Type 0
AreListsOf role d facts cells c lists = AreParted (is_in_row role d facts cells c) (length (firsts_in facts c)) (joints_in facts c) lists

-- of these cells all is kept, and of no other anything
pub record AreRows (role : Role) (d : Design) (facts : Facts) (done : List CellId) (cells : Table) : Type 0 where
  pub room : (c : CellId) → IsCell d c → IsSome (lists_at cells c)
  pub told : (c : CellId) → Contains done c → (lists : List (List Joint)) × (lists_at cells c ≡ Some lists) × AreListsOf role d facts cells c lists

-- what is kept of a cell is set, where there is room for it
pub record AreSetAt (old : Table) (c : CellId) (lists : List (List Joint)) (new : Table) : Type 0 where
  pub room : (other : CellId) → IsSome (lists_at old other) → IsSome (lists_at new other)
  pub here : IsSome (lists_at old c) → lists_at new c ≡ Some lists
  pub others : (other : CellId) → (other ≡ c → ⊥) → lists_at new other ≡ lists_at old other
