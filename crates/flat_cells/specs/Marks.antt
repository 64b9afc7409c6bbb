-- Marks of cells.
use Rattle.std.specs.Prelude.{◌≡◌, ◌⊎◌, ℕ, Bool, true, false, List, Option, length, slice_get, option_and_then, unwrap_or, IsSome, IfSome}
use Rattle.std.specs.List.{All, Contains}
use Rattle.netlist_schema.specs.Design.{Design, cells_in}
use Rattle.netlist_schema.specs.Hierarchy.{HasInst, IsBelow}
use Rattle.netlist_schema.specs.Types.{CellId, Inst}
use Rattle.flat_cells.specs.declared.marks.CellMarks.{CellMarks}

-- the mark of a cell, where there is one
abbrev pub mark_at : CellMarks → CellId → Option Bool
mark_at m c = option_and_then (λ row. slice_get row.items c.slot) (slice_get m.rows.items c.lib.0)

-- the cell is marked
abbrev pub is_marked : CellMarks → CellId → Bool
is_marked m c = unwrap_or (mark_at m c) false

-- a mark for each cell of the design, none of which is set
pub record AreBlank (d : Design) (m : CellMarks) : Type 0 where
  pub long : length m.rows.items ≡ length d.libs
  pub each : (lib : ℕ) → IfSome (slice_get m.rows.items lib) (λ row.
      (length row.items ≡ length (cells_in d (record { 0 = lib }))) × All (λ mark. mark ≡ false) row.items)

-- what is marked stays so, with room for the same cells
pub record AreKept (old new : CellMarks) : Type 0 where
  pub room : (c : CellId) → IsSome (mark_at old c) → IsSome (mark_at new c)
  pub marks : (c : CellId) → is_marked old c ≡ true → is_marked new c ≡ true

-- the cell is marked too, where there is room for it
pub record IsSet (old : CellMarks) (cell : CellId) (new : CellMarks) : Type 0 where
  pub kept : AreKept old new
  pub here : IsSome (mark_at old cell) → is_marked new cell ≡ true
  pub only : (c : CellId) → is_marked new c ≡ true → (is_marked old c ≡ true) ⊎ (c ≡ cell)

-- the cells of these instances are marked too
pub record AreInstsMarked (insts : List Inst) (old new : CellMarks) : Type 0 where
  pub kept : AreKept old new
  pub each : (inst : Inst) → Contains insts inst → IsSome (mark_at old inst.of) → is_marked new inst.of ≡ true
  pub only : (c : CellId) → is_marked new c ≡ true → (is_marked old c ≡ true) ⊎ ((inst : Inst) × Contains insts inst × (inst.of ≡ c))

-- what is below the cells that were marked is marked too, and nothing else
pub record AreMarkedBelow (d : Design) (cells : List CellId) (old new : CellMarks) : Type 0 where
  pub kept : AreKept old new
  pub down : (c : CellId) (inst : Inst) → Contains cells c → is_marked new c ≡ true → HasInst d c inst → is_marked new inst.of ≡ true
  pub only : (c : CellId) → is_marked new c ≡ true → (is_marked old c ≡ true) ⊎ ((outer : CellId) × (is_marked old outer ≡ true) × IsBelow d c outer)
