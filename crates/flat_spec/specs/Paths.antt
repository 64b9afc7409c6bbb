-- Where a path of instances leads, and which bits the nets there join.
use Rattle.std.specs.Prelude.{◌≡◌, ℕ, List, [], ◌∷◌, Option, Some, None, slice_get, option_and_then, IsSome}
use Rattle.std.specs.List.{Contains}
use Rattle.std.specs.Option.{option_map_or}
use Rattle.netlist_schema.specs.Design.{Design, cell_at, nets_of}
use Rattle.netlist_schema.specs.Hierarchy.{insts_at}
use Rattle.netlist_schema.specs.Types.{CellId, End, Net, Port}
use Rattle.flat_spec.specs.declared.item.NetAt.{NetAt}

-- the nets of the cell with this id, none where there is no such cell
abbrev pub nets_at : Design → CellId → List Net
nets_at d id = option_map_or nets_of (cell_at d id) []

-- the cell to which the path leads from this cell downwards; a step is the place of an instance in the contents reached so far
abbrev pub cell_along : Design → CellId → List ℕ → Option CellId
cell_along d c [] = Some c
cell_along d c (i ∷ path) = option_and_then (λ inst. cell_along d inst.of path) (slice_get (insts_at d c) i)

-- the cell of the occurrence at the path from the top, where there is one
abbrev pub cell_below_top : Design → List ℕ → Option CellId
cell_below_top d path = option_and_then (λ top. cell_along d top.cell path) d.top

-- the port of this number of the cell, where there is the cell and it has one
abbrev pub port_of_cell : Design → Option CellId → ℕ → Option Port
port_of_cell d cell port = option_and_then (λ body. slice_get body.ports port) (option_and_then (cell_at d) cell)

-- that of the occurrence at the path from the top
abbrev pub port_at : Design → List ℕ → ℕ → Option Port
port_at d path port = port_of_cell d (cell_below_top d path) port

-- the path leads from the root to that cell
abbrev pub Reaches : Design → CellId → List ℕ → CellId → Type 0
Reaches d root path c = cell_along d root path ≡ Some c

-- net n of the occurrence at the path
abbrev pub at_path : List ℕ → ℕ → NetAt
at_path path n = record { path = path; net = n }

-- net n of the root's own contents
abbrev pub at_root : ℕ → NetAt
at_root n = at_path [] n

-- the net itself, where there is one
abbrev pub net_of : Design → CellId → NetAt → Option Net
net_of d root x = option_and_then (λ c. slice_get (nets_at d c) x.net) (cell_along d root x.path)

-- there is such a net below the root
abbrev pub IsNet : Design → CellId → NetAt → Type 0
IsNet d root x = IsSome (net_of d root x)

-- the ends that the net joins in its own contents
abbrev pub ends_at : Design → CellId → NetAt → List End
ends_at d root x = option_map_or (λ net. net.ends) (net_of d root x) []

-- the net joins that end in its own contents
abbrev pub Joins : Design → CellId → NetAt → End → Type 0
Joins d root x e = Contains (ends_at d root x) e

-- one bit of a port
pub record Bit : Type 0 where
  pub port : ℕ
  pub bit : ℕ

-- the bit as the cell's own
abbrev pub own : Bit → End
own b = record { inst = None; port = b.port; bit = b.bit }

-- the bit of instance i
abbrev pub on : ℕ → Bit → End
on i b = record { inst = Some i; port = b.port; bit = b.bit }
