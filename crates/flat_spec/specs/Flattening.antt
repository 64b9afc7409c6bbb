-- The flattening of a design: the items of its occurrences in path order.
use Rattle.std.specs.Prelude.{ℕ, List, [], ◌∷◌, ◌++◌, map}
use Rattle.std.specs.List.{flat_map}
use Rattle.std.specs.Option.{option_map, option_map_or}
use Rattle.netlist_schema.specs.Design.{Design, cell_at}
use Rattle.netlist_schema.specs.Types.{CellId, TopHead}
use Rattle.flat_spec.specs.Effective.{effective}
use Rattle.flat_spec.specs.Occurrences.{Occurrence, occurrences, own_nets}
use Rattle.flat_spec.specs.Paths.{Bit}
use Rattle.flat_spec.specs.Pins.{net_at_pin, shown_bits}
use Rattle.flat_spec.specs.Representatives.{representative}
use Rattle.flat_spec.specs.declared.item.Item.{Item}
use Rattle.flat_spec.specs.declared.item.Item.TheVariants.{Enter, Net, Pin}
use Rattle.flat_spec.specs.declared.item.NetAt.{NetAt}

-- a net with its representative
abbrev pub net_item : Design → CellId → NetAt → Item
net_item d root x = Net x.path x.net (representative d root x)

-- a pin with the representative of the net that joins it, or with none
abbrev pub pin_item : Design → CellId → List ℕ → Bit → Item
pin_item d root path b = Pin path b.port b.bit (option_map (representative d root) (net_at_pin d root path b))

-- the occurrence with its cell and effective properties, then its nets, then the pins that it shows
abbrev pub items_of : Design → TopHead → Occurrence → List Item
items_of d top o =
    Enter o.path o.cell (effective d top o.path)
    ∷ map (net_item d top.cell) (own_nets d o)
    ++ map (pin_item d top.cell o.path) (option_map_or (shown_bits o.path) (cell_at d o.cell) [])

-- the items of each occurrence below the top, in path order; none where there is no top
abbrev pub flattening : Design → List Item
flattening d = option_map_or (λ top. flat_map (items_of d top) (occurrences d top.cell)) d.top []
