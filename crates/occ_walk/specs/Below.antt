-- The occurrence of an instance below another.
use Rattle.std.specs.Prelude.{◌≡◌, ℕ, List, [], ◌∷◌, ◌++◌, Option, Some, None, slice_get}
use Rattle.netlist_schema.specs.Design.{Design}
use Rattle.netlist_schema.specs.Hierarchy.{insts_at}
use Rattle.netlist_schema.specs.Types.{CellId, Inst}
use Rattle.flat_items.specs.Stand.{IsFrame}
use Rattle.occ_walk.specs.declared.frames.Below.{Below}

-- the frame of the occurrence of that instance, none of whose own instances is passed, and the instance's identifier
pub record IsBelow (d : Design) (path : List ℕ) (cell : CellId) (step : ℕ) (b : Below) : Type 0 where
  pub inst : Inst
  pub there : slice_get (insts_at d cell) step ≡ Some inst
  pub cell_is : b.frame.cell ≡ inst.of
  pub fresh : b.frame.next ≡ 0
  pub is : IsFrame d (path ++ step ∷ []) b.frame
  pub name_is : b.name.now ≡ inst.name.id

abbrev pub IsBelowAt : Design → List ℕ → CellId → ℕ → Option Below → Type 0
IsBelowAt d path cell step None = slice_get (insts_at d cell) step ≡ None
IsBelowAt d path cell step (Some b) = IsBelow d path cell step b
