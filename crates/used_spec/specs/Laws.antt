-- What holds of uses, and of what is kept.
use Rattle.std.specs.Prelude.{◌≡◌, ◌⊎◌, ◌↔◌, IsSomeAnd, Some, true, option_map, slice_get}
use Rattle.std.specs.List.{AllPairs, Contains}
use Rattle.netlist_schema.specs.Design.{Design, cell_at}
use Rattle.netlist_schema.specs.Hierarchy.{IsBelow, NoCellIsBelowItself, insts_at}
use Rattle.netlist_schema.specs.Types.{CellBody, CellId, TopHead}
use Rattle.netlist_schema.specs.Valid.{IsValid}
use Rattle.edif_spec.specs.Arranged.{new_cell, new_id}
use Rattle.used_spec.specs.Kept.{is_kept, kept, kept_places}
use Rattle.used_spec.specs.Named.{named_flattening}
use Rattle.used_spec.specs.Uses.{comes_before, users, users_at, uses}
use Rattle.used_spec.specs.declared.used_at.UsedAt.{UsedAt}

-- the index has the uses of each cell, and of nothing else
abbrev pub IndexHasEachCell : Type 0
IndexHasEachCell = (d : Design) (cell : CellId) → users_at (uses d) cell ≡ option_map (λ _. users d cell) (cell_at d cell)

-- the uses of a cell are just the instances of it
abbrev pub UsersAreInstances : Type 0
UsersAreInstances = (d : Design) (cell : CellId) (at : UsedAt) → Contains (users d cell) at ↔ IsSomeAnd (slice_get (insts_at d at.cell) at.inst) (λ inst. inst.of ≡ cell)

-- each comes before all behind it, so that none stands twice
abbrev pub UsersAreInOrder : Type 0
UsersAreInOrder = (d : Design) (cell : CellId) → AllPairs (λ a b. comes_before a b ≡ true) (users d cell)

-- what is kept is the top and the cells below it
abbrev pub KeptAreBelow : Type 0
KeptAreBelow = (d : Design) (top cell : CellId) → NoCellIsBelowItself d → (is_kept d top cell ≡ true) ↔ ((cell ≡ top) ⊎ IsBelow d cell top)

-- each cell that is kept stands in the kept design under its new id, with its instances by the new ids of their cells
abbrev pub KeptStandAnew : Type 0
KeptStandAnew = (d : Design) (top : TopHead) (id : CellId) (body : CellBody) → d.top ≡ Some top → cell_at d id ≡ Some body → is_kept d top.cell id ≡ true
    → cell_at (kept d) (new_id (kept_places d top.cell) id) ≡ Some (new_cell (kept_places d top.cell) body)

-- and each cell of the kept design is one of these
pub record ComesFrom (d : Design) (top : TopHead) (id : CellId) (n : CellBody) : Type 0 where
  pub old_id : CellId
  pub old : CellBody
  pub found : cell_at d old_id ≡ Some old
  pub kept : is_kept d top.cell old_id ≡ true
  pub at : id ≡ new_id (kept_places d top.cell) old_id
  pub is : n ≡ new_cell (kept_places d top.cell) old

abbrev pub KeptStoodBefore : Type 0
KeptStoodBefore = (d : Design) (top : TopHead) (id : CellId) (body : CellBody) → d.top ≡ Some top → cell_at (kept d) id ≡ Some body → ComesFrom d top id body

-- the kept design of a valid one is valid
abbrev pub KeptIsValid : Type 0
KeptIsValid = (d : Design) → IsValid d → IsValid (kept d)

-- the flattening stays, but for the ids of cells, whose names stay
abbrev pub KeptFlattensAlike : Type 0
KeptFlattensAlike = (d : Design) → IsValid d → named_flattening (kept d) ≡ named_flattening d

-- what is kept is kept whole
abbrev pub KeptStaysKept : Type 0
KeptStaysKept = (d : Design) → IsValid d → kept (kept d) ≡ kept d
