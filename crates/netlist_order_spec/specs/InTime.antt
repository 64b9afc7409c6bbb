-- Cells that come after those that they place.
use Rattle.std.specs.Prelude.{◌≡◌, ◌<◌, ℕ, List, Some, slice_get}
use Rattle.std.specs.List.{All, Contains}
use Rattle.netlist_schema.specs.Design.{insts_of}
use Rattle.netlist_schema.specs.Types.{CellBody}

-- There is a cell at this slot; the slot is not among those before it; and the slots of the cells that it places in its
-- own library all are.
pub record ComesInTime (own : ℕ) (cells : List CellBody) (before : List ℕ) (slot : ℕ) : Type 0 where
  pub cell : CellBody
  pub there : slice_get cells slot ≡ Some cell
  pub new : ¬ Contains before slot
  pub children : All (λ inst. inst.of.lib.0 ≡ own → Contains before inst.of.slot) (insts_of cell)

-- no slot before this one could come in its place
abbrev pub NoneEarlier : ℕ → List CellBody → List ℕ → ℕ → Type 0
NoneEarlier own cells before slot = (earlier : ℕ) → earlier < slot → ¬ ComesInTime own cells before earlier
