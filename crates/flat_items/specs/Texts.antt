-- Items with the texts of their paths.
use Rattle.std.specs.Prelude.{◌≡◌, ◌≤◌, ℕ, Bool, List, [], ◌∷◌, Option, Some, None, drop, false, true, length, option_and_then, slice_get, take}
use Rattle.std.specs.Option.{option_map_or}
use Rattle.netlist_schema.specs.Design.{Design}
use Rattle.netlist_schema.specs.Types.{CellId}
use Rattle.flat_lines_spec.specs.Lines.{path_text}
use Rattle.flat_spec.specs.Occurrences.{Occurrence}
use Rattle.flat_spec.specs.Paths.{cell_below_top, nets_at, port_of_cell}
use Rattle.flat_spec.specs.Types.{Item, NetAt}
use Rattle.flat_spec.specs.declared.item.Item.TheVariants as items
use Rattle.path_texts.specs.declared.text.PathText.{PathText}
use Rattle.flat_items.specs.Left.{is_over, own_left}
use Rattle.flat_items.specs.Lent.{properties_of}
use Rattle.flat_items.specs.declared.place.Stage.{Stage}
use Rattle.flat_items.specs.declared.texts.ItemText.{ItemText}
use Rattle.flat_items.specs.declared.texts.ItemText.TheVariants.{Enter, Net, Pin}
use Rattle.flat_items.specs.declared.texts.NetText.{NetText}

-- the path is a front of those steps
abbrev pub IsFront : List ℕ → List ℕ → Type 0
IsFront steps path = (length path ≤ length steps) × (take (length path) steps ≡ path)

-- the text of the path, and the cell to which it leads from the top
pub record IsPathText (d : Design) (path : List ℕ) (p : PathText) : Type 0 where
  pub text_is : p.text.now ≡ path_text d path
  pub cell_is : cell_below_top d path ≡ Some p.cell

-- the net of that number at the path
pub record IsNetText (d : Design) (net : NetAt) (n : NetText) : Type 0 where
  pub at : IsPathText d net.path n.at
  pub net_is : n.net ≡ net.net

abbrev pub IsFirstText : Design → Option NetAt → Option NetText → Type 0
IsFirstText d None None = Unit {0}
IsFirstText d None (Some n) = ⊥
IsFirstText d (Some net) None = ⊥
IsFirstText d (Some net) (Some n) = IsNetText d net n

-- the identifiers of a net and of a port of the cell, nothing where there is none
abbrev pub net_in : Design → CellId → ℕ → List ℕ
net_in d cell net = option_map_or (λ n. n.name.id) (option_and_then (λ id. slice_get (nets_at d id) net) (Some cell)) []

abbrev pub port_in : Design → CellId → ℕ → List ℕ
port_in d cell port = option_map_or (λ p. p.name.id) (port_of_cell d (Some cell) port) []

-- the item is this one
abbrev pub IsItemText : Design → Item → ItemText → Type 0
IsItemText d (items.Enter path cell properties) (Enter at shown) = IsPathText d path at × (at.cell ≡ cell) × (properties_of shown ≡ properties)
IsItemText d (items.Net path net first) (Net at number named) = IsPathText d path at × (number ≡ net) × IsNetText d first named
IsItemText d (items.Pin path port bit first) (Pin at place member named) =
    IsPathText d path at × (place ≡ port) × (member ≡ bit) × IsFirstText d first named
IsItemText d (items.Enter path cell properties) (Net at number named) = ⊥
IsItemText d (items.Enter path cell properties) (Pin at place member named) = ⊥
IsItemText d (items.Net path net first) (Enter at shown) = ⊥
IsItemText d (items.Net path net first) (Pin at place member named) = ⊥
IsItemText d (items.Pin path port bit first) (Enter at shown) = ⊥
IsItemText d (items.Pin path port bit first) (Net at number named) = ⊥

-- the occurrence has still something to give, and this is the first of the items that are left
pub record IsFirstItem (d : Design) (over : Bool) (all : List Item) (text : ItemText) : Type 0 where
  pub item : Item
  pub more : over ≡ false
  pub first : all ≡ item ∷ drop 1 all
  pub shown : IsItemText d item text

-- none of its items is left, or this is the first of them
abbrev pub IsTextAhead : Design → Occurrence → Stage → Option ItemText → Type 0
IsTextAhead d o stage None = is_over stage ≡ true
IsTextAhead d o stage (Some text) = IsFirstItem d (is_over stage) (own_left d o stage) text
