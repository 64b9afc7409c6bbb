-- The pin table of a flattening: a row for each pin, with the representative of the net that joins it.
use Rattle.std.specs.Prelude.{ℕ, List, [], ◌∷◌, ◌++◌, Option, codes}
use Rattle.std.specs.List.{flat_map}
use Rattle.std.specs.Option.{option_map_or}
use Rattle.std.specs.Fmt.{decimal}
use Rattle.netlist_schema.specs.Design.{Design}
use Rattle.flat_spec.specs.Flattening.{flattening}
use Rattle.flat_spec.specs.Types.{Item, NetAt}
use Rattle.flat_spec.specs.declared.item.Item.TheVariants.{Enter, Net, Pin}
use Rattle.flat_lines_spec.specs.Lines.{net_words, path_text, port_text}
use Rattle.flat_csv_spec.specs.Fields.{row}

-- the names of the columns
abbrev pub header : List ℕ
header = row (codes "path" ∷ codes "port" ∷ codes "bit" ∷ codes "net_path" ∷ codes "net" ∷ [])

-- the path and the identifier of the net's representative, both empty where no net joins the pin
abbrev pub net_fields : Design → Option NetAt → List (List ℕ)
net_fields d first = option_map_or (net_words d) first ([] ∷ [] ∷ [])

-- the path of a pin's occurrence, its port, the bit of the port, and its net
abbrev pub pin_fields : Design → List ℕ → ℕ → ℕ → Option NetAt → List (List ℕ)
pin_fields d path port bit first = path_text d path ∷ port_text d path port ∷ decimal bit ∷ net_fields d first

-- the row of an item: only a pin has one
abbrev pub pin_row : Design → Item → List ℕ
pin_row d (Enter path cell properties) = []
pin_row d (Net path net first) = []
pin_row d (Pin path port bit first) = row (pin_fields d path port bit first)

-- items, row by row
abbrev pub pin_rows : Design → List Item → List ℕ
pin_rows d items = flat_map (pin_row d) items

-- the names of the columns, and the rows of the flattening
abbrev pub pin_table : Design → List ℕ
pin_table d = header ++ pin_rows d (flattening d)
