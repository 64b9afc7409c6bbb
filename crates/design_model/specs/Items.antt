-- The items of an occurrence below a root.
use Rattle.std.specs.Prelude.{ℕ, List, [], ◌∷◌, ◌++◌, map}
use Rattle.std.specs.List.{enumerate_from, flat_map, range_with_len}
use Rattle.std.specs.Option.{option_map_or}
use Rattle.netlist_schema.specs.Design.{Design, cell_at, port_width}
use Rattle.netlist_schema.specs.Types.{CellId, Port}
use Rattle.flat_spec.specs.Effective.{effective}
use Rattle.flat_spec.specs.Flattening.{net_item, pin_item}
use Rattle.flat_spec.specs.Occurrences.{Occurrence, own_nets}
use Rattle.flat_spec.specs.Paths.{Bit}
use Rattle.flat_spec.specs.Pins.{shown_bits}
use Rattle.flat_spec.specs.declared.item.Item.{Item}
use Rattle.flat_spec.specs.declared.item.Item.TheVariants.{Enter}

-- a bit of a port
abbrev pub bit_at : ℕ → ℕ → Bit
bit_at port bit = record { port = port; bit = bit }

-- the bits of these ports in order, port by port, where the first port has that place
abbrev pub bits_from : ℕ → List Port → List Bit
bits_from place ports = flat_map (λ p. map (bit_at p.0) (range_with_len 0 (port_width p.1))) (enumerate_from place ports)

-- the occurrence with its cell, and its effective properties below the design's top
abbrev pub enter_item : Design → Occurrence → Item
enter_item d o = Enter o.path o.cell (option_map_or (λ top. effective d top o.path) d.top [])

-- the occurrence, then its nets, then the pins that it shows; representatives are those in the root's tree
abbrev pub items_below : Design → CellId → Occurrence → List Item
items_below d root o =
    enter_item d o
    ∷ map (net_item d root) (own_nets d o)
    ++ map (pin_item d root o.path) (option_map_or (shown_bits o.path) (cell_at d o.cell) [])
