-- How many items stand at and below the occurrences of a cell.
use Rattle.std.specs.Prelude.{◌≡◌, ℕ, ◌-◌, ◌^◌, List, ◌∷◌, Some, length, min}
use Rattle.netlist_schema.specs.Design.{Design}
use Rattle.netlist_schema.specs.Types.{CellId, TopHead}
use Rattle.flat_spec.specs.Below.{items_under}
use Rattle.flat_cells.specs.Below.{IsAtOrBelow}
use Rattle.std.specs.List.{Contains}
use Rattle.par_parts.specs.Counts.{HasRoom, count_at}
use Rattle.par_parts.specs.declared.tables.ItemCounts.{ItemCounts}

-- at and below each occurrence of the cell that is not the top stand so many items, or more than a number of 64 bits can say
abbrev pub IsCountOf : Design → CellId → ℕ → Type 0
IsCountOf d c count = (top : TopHead) (step : ℕ) (path : List ℕ) → count ≡ min (length (items_under d top (step ∷ path) c)) (2 ^ 64 - 1)

-- of the cells at and below the top the counts are kept
abbrev pub AreCounts : Design → CellId → ItemCounts → Type 0
AreCounts d top counts = (c : CellId) → IsAtOrBelow d top c → (n : ℕ) × (count_at counts c ≡ Some n) × IsCountOf d c n

-- these cells are counted, and a count is kept for each cell of the design
pub record AreCounted (d : Design) (done : List CellId) (counts : ItemCounts) : Type 0 where
  pub room : HasRoom d counts
  pub told : (c : CellId) → Contains done c → (n : ℕ) × (count_at counts c ≡ Some n) × IsCountOf d c n
