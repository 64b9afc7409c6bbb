-- What is written of items, step by step.
use Rattle.std.specs.Prelude.{◌≡◌, ℕ, ◌++◌, ◌∷◌, List, Option, Some, Bool, true, false}
use Rattle.netlist_schema.specs.Design.{Design}
use Rattle.flat_spec.specs.Types.{Item}
use Rattle.flat_lines_spec.specs.Lines.{item_line, item_lines, last_line, shown_items}
use Rattle.flat_csv_spec.specs.PinTable.{pin_row, pin_rows}

-- the lines of items up to a limit, and then `end`, or `more` where items are left
abbrev pub text_of_items : Design → Option ℕ → List Item → List ℕ
text_of_items d limit items = item_lines d (shown_items limit items) ++ last_line limit items

-- an item's line was given, for which there was room; or the whole text of items that begin with this one
abbrev pub GivesItem : (List ℕ → Type 0) → Design → Option ℕ → Item → Bool → Type 0
GivesItem Gives d room item true = (room ≡ Some 0 → ⊥) × Gives (item_line d item)
GivesItem Gives d room item false = (items : List Item) → Gives (text_of_items d room (item ∷ items))

-- the line of the first item was given, for which there was room, and the others are left; or the whole text of the items was given
abbrev pub GivesLine : (List ℕ → Type 0) → Design → Option ℕ → List Item → List Item → Bool → Type 0
GivesLine Gives d room old new true = (item : Item) × (old ≡ item ∷ new) × (room ≡ Some 0 → ⊥) × Gives (item_line d item)
GivesLine Gives d room old new false = Gives (text_of_items d room old)

-- the row of the first item was given, and the others are left; or the rows of all items were given
abbrev pub GivesRow : (List ℕ → Type 0) → Design → List Item → List Item → Bool → Type 0
GivesRow Gives d old new true = (item : Item) × (old ≡ item ∷ new) × Gives (pin_row d item)
GivesRow Gives d old new false = Gives (pin_rows d old)
