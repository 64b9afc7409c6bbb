-- The pins of an occurrence, and the nets that join them.
use Rattle.std.specs.Prelude.{◌≡◌, ◌↔◌, ℕ, List, [], ◌∷◌, ◌++◌, Option, Some, None, is_none, if◌then◌else◌, map, position}
use Rattle.std.specs.List.{Contains, enumerate_from, flat_map, range_with_len}
use Rattle.std.specs.Option.{option_map, option_map_or}
use Rattle.netlist_schema.specs.Design.{Design, cell_at, port_width}
use Rattle.netlist_schema.specs.Types.{CellBody, CellId, End}
use Rattle.netlist_schema.specs.Valid.{IsValid}
use Rattle.flat_spec.specs.ConnectionTest.{above, has_end}
use Rattle.flat_spec.specs.Paths.{Bit, own, on, at_path, cell_along, nets_at, Joins, Reaches}
use Rattle.flat_spec.specs.declared.item.NetAt.{NetAt}

-- the bits of the ports in order, port by port
abbrev pub bits_of : CellBody → List Bit
bits_of body =
    flat_map (λ p. map (λ bit. record { port = p.0; bit = bit }) (range_with_len 0 (port_width p.1))) (enumerate_from 0 body.ports)

-- those of the cell with this id, none where there is no such cell
abbrev pub own_bits : Design → CellId → List Bit
own_bits d c = option_map_or bits_of (cell_at d c) []

-- the bits whose pins are shown: those of the root, and those of leaves
abbrev pub shown_bits : List ℕ → CellBody → List Bit
shown_bits [] body = bits_of body
shown_bits (i ∷ path) body = if is_none body.contents then bits_of body else []

-- the first net of the occurrence at the path that joins the end in the contents there
abbrev pub net_joining : Design → CellId → List ℕ → End → Option NetAt
net_joining d root path e =
    option_map (at_path path) (option_map_or (λ c. position (λ net. has_end net.ends e) (nets_at d c)) (cell_along d root path) None)

-- the net at a bit of an occurrence: the root's bit is joined in the root's own contents, and another's in those of its parent
abbrev pub net_at_pin : Design → CellId → List ℕ → Bit → Option NetAt
net_at_pin d root path b =
    option_map_or (λ up. net_joining d root up.0 (on up.1 b)) (above path) (net_joining d root [] (own b))

-- the net joins the bit of the occurrence at the path: the root's as its cell's own, and another's as that of an instance of its parent
abbrev pub JoinsPin : Design → CellId → NetAt → List ℕ → Bit → Type 0
JoinsPin d root x [] b = (x.path ≡ []) × Joins d root x (own b)
JoinsPin d root x (i ∷ path) b = (step : ℕ) × (i ∷ path ≡ x.path ++ step ∷ []) × Joins d root x (on step b)

-- in a valid design the net at a pin is the only one that joins it
abbrev pub PinsAreExact : Type 0
PinsAreExact = (d : Design) (root : CellId) (path : List ℕ) (b : Bit) (x : NetAt) → IsValid d
    → (net_at_pin d root path b ≡ Some x) ↔ JoinsPin d root x path b

-- In a valid design what a net joins is there: an end at the cell's own bits is one of the bits of the occurrence's cell, and an end
-- on an instance is one of the bits of the cell one step below.
abbrev pub JoinedOwnBitsAreThere : Type 0
JoinedOwnBitsAreThere = (d : Design) (root : CellId) (x : NetAt) (b : Bit) → IsValid d → Joins d root x (own b)
    → (c : CellId) × Reaches d root x.path c × Contains (own_bits d c) b

abbrev pub JoinedBitsBelowAreThere : Type 0
JoinedBitsBelowAreThere = (d : Design) (root : CellId) (x : NetAt) (step : ℕ) (b : Bit) → IsValid d → Joins d root x (on step b)
    → (c : CellId) × Reaches d root (x.path ++ step ∷ []) c × Contains (own_bits d c) b
