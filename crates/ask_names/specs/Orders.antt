-- Places in the order of names, and those of all cells.
use Rattle.std.specs.Prelude.{◌≡◌, ◌<◌, ℕ, List, [], Option, Some, None, Result, Ok, Err, length, map, option_and_then, slice_get}
use Rattle.std.specs.List.{All, Contains}
use Rattle.std.specs.List.Sorted.{IsSorted}
use Rattle.std.specs.Cmp.Lexicographic.{slice_cmp}
use Rattle.std.specs.Option.{option_map_or}
use Rattle.std.specs.Ordering.{nat_cmp}
use Rattle.std.specs.declared.cmp.Ordering.{Ordering}
use Rattle.netlist_schema.specs.Design.{Design}
use Rattle.netlist_schema.specs.Hierarchy.{IsCell, insts_at}
use Rattle.netlist_schema.specs.Names.{AreDistinct}
use Rattle.netlist_schema.specs.Types.{CellId}
use Rattle.edit_rules_spec.specs.Find.{place_of}
use Rattle.flat_spec.specs.Paths.{nets_at}
use Rattle.ask_names.specs.Places.{ports_at}
use Rattle.ask_names.specs.declared.index.Orders.{Orders}

-- the name at a place, no bytes where there is none
abbrev pub name_at : List (List ℕ) → ℕ → List ℕ
name_at names place = option_map_or (λ name. name) (slice_get names place) []

-- how the name at a place stands to a name, and to that at another place, byte by byte
abbrev pub cmp_to : List (List ℕ) → List ℕ → ℕ → Ordering
cmp_to names name place = slice_cmp nat_cmp (name_at names place) name

abbrev pub cmp_at : List (List ℕ) → ℕ → ℕ → Ordering
cmp_at names a b = slice_cmp nat_cmp (name_at names a) (name_at names b)

-- so many places from 0 on, each of them, and no others
pub record ArePlaces (count : ℕ) (places : List ℕ) : Type 0 where
  pub each : (place : ℕ) → place < count → Contains places place
  pub within : All (λ place. place < count) places

-- the places of names, which differ, in the order of the names
pub record AreInOrder (names : List (List ℕ)) (order : List ℕ) : Type 0 where
  pub differ : AreDistinct names
  pub places : ArePlaces (length names) order
  pub ascend : IsSorted (cmp_at names) order

-- where a name was found among the places in order: there stands its place, or it has none
abbrev pub IsSearched : List (List ℕ) → List ℕ → List ℕ → Result ℕ ℕ → Type 0
IsSearched names name order (Ok at) = slice_get order at ≡ place_of name names
IsSearched names name order (Err at) = place_of name names ≡ None

-- the names in a cell
abbrev pub inst_names : Design → CellId → List (List ℕ)
inst_names d c = map (λ inst. inst.name.id) (insts_at d c)

abbrev pub net_names : Design → CellId → List (List ℕ)
net_names d c = map (λ net. net.name.id) (nets_at d c)

abbrev pub port_names : Design → CellId → List (List ℕ)
port_names d c = map (λ port. port.name.id) (ports_at d c)

-- the orders of a cell
pub record AreOrdersOf (d : Design) (c : CellId) (orders : Orders) : Type 0 where
  pub insts : AreInOrder (inst_names d c) orders.insts.items
  pub nets : AreInOrder (net_names d c) orders.nets.items
  pub ports : AreInOrder (port_names d c) orders.ports.items

-- those of the first so many cells of a library
pub record AreRow (d : Design) (lib count : ℕ) (row : List Orders) : Type 0 where
  pub long : length row ≡ count
  pub each : (slot : ℕ) → slot < count → (orders : Orders) × (slice_get row slot ≡ Some orders) × AreOrdersOf d (record { lib = record { 0 = lib }; slot = slot }) orders

-- those of the cell among the orders of all, by library and place
abbrev pub orders_in : List (List Orders) → CellId → Option Orders
orders_in cells c = option_and_then (λ row. slice_get row c.slot) (slice_get cells c.lib.0)

-- so for each cell of the design
abbrev pub AreOrders : Design → List (List Orders) → Type 0
AreOrders d cells = (c : CellId) → IsCell d c → (orders : Orders) × (orders_in cells c ≡ Some orders) × AreOrdersOf d c orders
