-- What the items that a flattening begins with tell of the items behind them.
use Rattle.std.specs.Prelude.{◌≡◌, ℕ, List, [], ◌∷◌, ◌++◌, Option, Some, option_and_then}
use Rattle.netlist_schema.specs.Design.{Design}
use Rattle.netlist_schema.specs.Types.{CellId, Direction}
use Rattle.netlist_schema.specs.Valid.{IsValid}
use Rattle.flat_spec.specs.Flattening.{flattening}
use Rattle.flat_spec.specs.Paths.{port_of_cell}
use Rattle.flat_spec.specs.Types.{Item}
use Rattle.flat_spec.specs.declared.item.Item.TheVariants.{Enter, Net, Pin}

-- the flattening of a valid design begins with these items
pub record IsFront (d : Design) (items : List Item) : Type 0 where
  pub valid : IsValid d
  pub rest : List Item
  pub whole : flattening d ≡ items ++ rest

-- the cell of the last occurrence that the items enter, or else this one
abbrev pub last_cell : Option CellId → List Item → Option CellId
last_cell cell [] = cell
last_cell cell (Enter path c properties ∷ items) = last_cell (Some c) items
last_cell cell (Net path net first ∷ items) = last_cell cell items
last_cell cell (Pin path port bit first ∷ items) = last_cell cell items

-- the direction of a port of the cell, where it has one
abbrev pub direction_in : Design → Option CellId → ℕ → Option Direction
direction_in d cell port = option_and_then (λ p. p.direction) (port_of_cell d cell port)
