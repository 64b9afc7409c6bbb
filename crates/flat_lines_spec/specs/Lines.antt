-- The lines of a flattening, as a report shows them.
use Rattle.std.specs.Prelude.{ℕ, List, [], ◌∷◌, ◌++◌, Option, Some, None, codes, length, map, take, option_and_then, nat_lt, if◌then◌else◌}
use Rattle.std.specs.List.{flat_map}
use Rattle.std.specs.Option.{option_map_or}
use Rattle.std.specs.Fmt.{decimal}
use Rattle.netlist_schema.specs.Design.{Design, lib_at, cell_at}
use Rattle.netlist_schema.specs.Types.{CellId}
use Rattle.edif_spec.specs.PropertyText.{property_text}
use Rattle.flat_spec.specs.Effective.{names_along}
use Rattle.flat_spec.specs.Flattening.{flattening}
use Rattle.flat_spec.specs.Paths.{at_path, net_of, port_at}
use Rattle.flat_spec.specs.Types.{Item, NetAt}
use Rattle.flat_spec.specs.declared.item.Item.TheVariants.{Enter, Net, Pin}

-- `/` before each identifier, and `/` alone where there is none
abbrev pub names_text : List (List ℕ) → List ℕ
names_text [] = codes "/"
names_text (name ∷ names) = flat_map (λ n. codes "/" ++ n) (name ∷ names)

-- the path of an occurrence, by the identifiers of the instances that lead to it from the top
abbrev pub path_text : Design → List ℕ → List ℕ
path_text d path = names_text (option_map_or (λ top. names_along d top.cell path) d.top [])

-- the identifier of a library, of a cell, of a port of the cell at the path, and of a net; nothing where there is no such
abbrev pub lib_text : Design → CellId → List ℕ
lib_text d id = option_map_or (λ lib. lib.head.name.id) (lib_at d id.lib) []

abbrev pub cell_text : Design → CellId → List ℕ
cell_text d id = option_map_or (λ body. body.name.id) (cell_at d id) []

abbrev pub port_text : Design → List ℕ → ℕ → List ℕ
port_text d path port = option_map_or (λ p. p.name.id) (port_at d path port) []

abbrev pub net_text : Design → NetAt → List ℕ
net_text d x = option_map_or (λ net. net.name.id) (option_and_then (λ top. net_of d top.cell x) d.top) []

-- words with one blank between each two
abbrev pub spaced : List (List ℕ) → List ℕ
spaced [] = []
spaced (word ∷ []) = word
spaced (word ∷ next ∷ words) = word ++ codes " " ++ spaced (next ∷ words)

-- a net: the path of its occurrence, and its identifier
abbrev pub net_words : Design → NetAt → List (List ℕ)
net_words d x = path_text d x.path ∷ net_text d x ∷ []

-- An occurrence with its library, cell and properties; a net and its representative; a bit of a port and the representative of the
-- net that joins it, or `-`.
abbrev pub item_words : Design → Item → List (List ℕ)
item_words d (Enter path cell properties) = codes "inst" ∷ path_text d path ∷ lib_text d cell ∷ cell_text d cell ∷ map property_text properties
item_words d (Net path net first) = codes "net" ∷ net_words d (at_path path net) ++ net_words d first
item_words d (Pin path port bit first) =
    codes "pin" ∷ path_text d path ∷ port_text d path port ∷ decimal bit ∷ option_map_or (net_words d) first (codes "-" ∷ [])

-- an item as a line, with the line feed at its end
abbrev pub item_line : Design → Item → List ℕ
item_line d item = spaced (item_words d item) ++ 10 ∷ []

-- items, line by line
abbrev pub item_lines : Design → List Item → List ℕ
item_lines d items = flat_map (item_line d) items

-- the first items up to the limit, all of them where there is none
abbrev pub shown_items : Option ℕ → List Item → List Item
shown_items None items = items
shown_items (Some limit) items = take limit items

-- `end`, or `more` where items are left
abbrev pub last_line : Option ℕ → List Item → List ℕ
last_line None items = codes "end" ++ 10 ∷ []
last_line (Some limit) items = (if nat_lt limit (length items) then codes "more" else codes "end") ++ 10 ∷ []

-- the lines of the flattening up to the limit, and then `end`, or `more` where items are left
abbrev pub flattening_text : Design → Option ℕ → List ℕ
flattening_text d limit = item_lines d (shown_items limit (flattening d)) ++ last_line limit (flattening d)
