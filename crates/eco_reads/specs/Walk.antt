-- What a walk below a cell reads.
use Rattle.std.specs.Prelude.{◌≡◌, ◌⊎◌, ◌↔◌, ◌++◌, List, map}
use Rattle.std.specs.List.{Contains}
use Rattle.netlist_schema.specs.Design.{Design}
use Rattle.netlist_schema.specs.Hierarchy.{IsBelow}
use Rattle.netlist_schema.specs.Names.{AreDistinct}
use Rattle.netlist_schema.specs.Types.{CellId, Inst, Object}
use Rattle.edit_cells.specs.Parts.{IsInside}

-- a cell, or one below it
abbrev pub IsAtOrBelow : Design → CellId → CellId → Type 0
IsAtOrBelow d from id = (id ≡ from) ⊎ IsBelow d id from

-- what is inside a cell and the cells below it
abbrev pub IsInsideBelow : Design → CellId → Object → Type 0
IsInsideBelow d from o = (id : CellId) × IsAtOrBelow d from id × IsInside id o

-- a cell of which one of these is an instance
abbrev pub IsPlaced : List Inst → CellId → Type 0
IsPlaced insts id = Contains (map (λ inst. inst.of) insts) id

-- these and no others stand on the list, each once
pub record IsListed (ids order : List CellId) : Type 0 where
  pub same : (id : CellId) → Contains ids id ↔ Contains order id
  pub once : AreDistinct order

-- the list goes on, and has as a set what it had and these cells
pub record GoesOn (old new : List CellId) (Cells : CellId → Type 0) : Type 0 where
  pub prefix : (more : List CellId) × (new ≡ old ++ more)
  pub cells : (id : CellId) → Contains new id ↔ (Contains old id ⊎ Cells id)
