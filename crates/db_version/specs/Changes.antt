-- Libraries with other bodies for some of their cells.
use Rattle.std.specs.Prelude.{◌≡◌, ℕ, List, [], ◌∷◌, Some, slice_get, slice_set}
use Rattle.netlist_schema.specs.Types.{CellBody}

-- the cells with these bodies at their places, one after the other
abbrev pub cells_set : List CellBody → List (ℕ × CellBody) → List CellBody
cells_set cells [] = cells
cells_set cells (change ∷ changes) = cells_set (slice_set cells change.0 change.1) changes

-- each body has the name that stands at its place
abbrev pub KeepNames : List (List ℕ) → List (ℕ × CellBody) → Type 0
KeepNames names [] = Unit {0}
KeepNames names (change ∷ changes) = (slice_get names change.0 ≡ Some change.1.name.id) × KeepNames names changes
