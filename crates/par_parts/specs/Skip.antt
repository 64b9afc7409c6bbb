-- What is passed over as a whole.
use Rattle.std.specs.Prelude.{◌≡◌, ◌<◌, ◌≤◌, ◌+◌, ◌-◌, ◌^◌, ℕ, Option, Some, None, true, drop, length}
use Rattle.netlist_schema.specs.Design.{Design}
use Rattle.netlist_schema.specs.Hierarchy.{insts_at}
use Rattle.netlist_schema.specs.Types.{CellId}
use Rattle.par_parts.specs.Counts.{count_at}
use Rattle.par_parts.specs.declared.tables.ItemCounts.{ItemCounts}
use Rattle.occ_walk.specs.Left.{left}
use Rattle.flat_items.specs.Left.{is_over}
use Rattle.flat_items.specs.Stand.{MayStand, Stand}

-- that is the count of the cell, it says all, and it is no more than so many
pub record IsFitting (counts : ItemCounts) (cell : CellId) (most count : ℕ) : Type 0 where
  pub is : count_at counts cell ≡ Some count
  pub whole : count < 2 ^ 64 - 1
  pub fits : count ≤ most

-- the place is the same, or what stands at and below the next instance was passed over, and as many items less are to be passed over
pub record IsBehindInst (d : Design) (count : ℕ) (old new : Stand) (more : ℕ) : Type 0 where
  pub stands : MayStand d new
  pub over : is_over new.stage ≡ true
  pub cell_is : new.here.cell ≡ old.here.cell
  pub next_is : new.here.next ≡ old.here.next + 1
  pub there : old.here.next < length (insts_at d old.here.cell)
  pub less : more ≤ count
  pub left : drop more (left d new) ≡ drop count (left d old)

abbrev pub HasPassedInst : Design → ℕ → Stand → Stand → Option ℕ → Type 0
HasPassedInst d count old new None = new ≡ old
HasPassedInst d count old new (Some more) = IsBehindInst d count old new more
