-- The cells of the occurrences on a path.
use Rattle.std.specs.Prelude.{◌≡◌, ◌≤◌, ◌+◌, ℕ, List, Option, Some, None, length, slice_get, take}
use Rattle.netlist_schema.specs.Design.{Design}
use Rattle.netlist_schema.specs.Types.{CellId}
use Rattle.std.specs.List.{Contains}
use Rattle.flat_spec.specs.Paths.{Bit, IsNet, Reaches, at_root, cell_along}
use Rattle.flat_spec.specs.Pins.{own_bits}
use Rattle.net_classes.specs.Facts.{Facts, first_at}

-- the cell of each front of the path, from the root's to that of the whole
pub record AreCellsOn (d : Design) (root : CellId) (path : List ℕ) (cells : List CellId) : Type 0 where
  pub long : length cells ≡ length path + 1
  pub each : (k : ℕ) → k ≤ length path → (c : CellId) × (slice_get cells k ≡ Some c) × Reaches d root (take k path) c

-- none where the path leads nowhere
abbrev pub IsCellsAnswer : Design → CellId → List ℕ → Option (List CellId) → Type 0
IsCellsAnswer d root path None = cell_along d root path ≡ None
IsCellsAnswer d root path (Some cells) = AreCellsOn d root path cells

-- the cell at the end of the path, on which these are the cells, has that net
abbrev pub IsNetOn : Design → List ℕ → List CellId → ℕ → Type 0
IsNetOn d path cells net = (c : CellId) × (slice_get cells (length path) ≡ Some c) × IsNet d c (at_root net)

-- the first net inside of a net that joins the own bit, as far as it is kept; none where the cell has no such bit
abbrev pub IsFirstAnswer : Design → Facts → CellId → Bit → Option ℕ → Type 0
IsFirstAnswer d facts c b None = Contains (own_bits d c) b → first_at facts c b ≡ None
IsFirstAnswer d facts c b (Some first) = Contains (own_bits d c) b × (first_at facts c b ≡ Some first)
