-- A count for each cell, and how counts are set.
use Rattle.std.specs.Prelude.{◌≡◌, ℕ, Option, Some, IsSome, slice_get, option_and_then, unwrap_or}
use Rattle.netlist_schema.specs.Design.{Design}
use Rattle.netlist_schema.specs.Hierarchy.{IsCell}
use Rattle.netlist_schema.specs.Types.{CellId, Inst}
use Rattle.par_parts.specs.declared.tables.ItemCounts.{ItemCounts}

-- the count of a cell, where one is kept
abbrev pub count_at : ItemCounts → CellId → Option ℕ
count_at counts c = option_and_then (λ row. slice_get row.items c.slot) (slice_get counts.rows.items c.lib.0)

-- the count of an instance's cell, nothing where none is kept
abbrev pub kept_of : ItemCounts → Inst → ℕ
kept_of counts inst = unwrap_or (count_at counts inst.of) 0

-- a count is kept for each cell of the design
abbrev pub HasRoom : Design → ItemCounts → Type 0
HasRoom d counts = (c : CellId) → IsCell d c → IsSome (count_at counts c)

-- the count of a cell is set, where one is kept for it
pub record IsSet (old : ItemCounts) (c : CellId) (n : ℕ) (new : ItemCounts) : Type 0 where
  pub room : (other : CellId) → IsSome (count_at old other) → IsSome (count_at new other)
  pub here : IsSome (count_at old c) → count_at new c ≡ Some n
  pub others : (other : CellId) → (other ≡ c → ⊥) → count_at new other ≡ count_at old other
