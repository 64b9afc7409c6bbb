-- Instances that change their cells at their places, where the contents of a cell are replaced.
use Rattle.std.specs.Prelude.{◌≡◌, ◌≤◌, ℕ, Bool, true, false, List, [], ◌∷◌, Option, Some, None, if◌then◌else◌, length, option_map, slice_get}
use Rattle.std.specs.List.{flat_map, range_with_len}
use Rattle.std.specs.Option.{option_map_or}
use Rattle.netlist_schema.specs.Design.{Design}
use Rattle.netlist_schema.specs.Hierarchy.{insts_at}
use Rattle.netlist_schema.specs.Types.{CellId, Contents, Inst}
use Rattle.edit_rules_spec.specs.Paths.{same_cell}
use Rattle.edit_cells.specs.declared.change.CellChange.TheVariants.{Inner}
use Rattle.edit_cells.specs.declared.change.Change.{Change}
use Rattle.used_spec.specs.declared.used_at.UsedAt.{UsedAt}
use Rattle.where_used.specs.Rows.{drop_in, put_in}
use Rattle.where_used.specs.declared.moves.Move.{Move}

-- the cell of the instance at a place, where there is one
abbrev pub cell_of : List Inst → ℕ → Option CellId
cell_of insts place = option_map (λ inst. inst.of) (slice_get insts place)

-- two instances, where they are there, are of one cell, or neither is there
abbrev pub is_same : Option CellId → Option CellId → Bool
is_same None None = true
is_same None (Some b) = false
is_same (Some a) None = false
is_same (Some a) (Some b) = same_cell a b

-- a place, where its instance changes its cell
abbrev pub move_at : ℕ → Option CellId → Option CellId → List Move
move_at place old new = if is_same old new then [] else (record { place = place; old = old; new = new } ∷ [])

-- those among the first so many places whose instances change their cells
abbrev pub moves : List Inst → List Inst → ℕ → List Move
moves olds news count = flat_map (λ place. move_at place (cell_of olds place) (cell_of news place)) (range_with_len 0 count)

-- all such places
pub record AreMoves (olds news : List Inst) (found : List Move) : Type 0 where
  pub count : ℕ
  pub olds_fit : length olds ≤ count
  pub news_fit : length news ≤ count
  pub all : found ≡ moves olds news count

-- the change replaces the contents of a cell, and these are the places whose instances change their cells
pub record IsRefilled (d : Design) (change : Change) (cell : CellId) (found : List Move) : Type 0 where
  pub contents : Contents
  pub only : change.cells ≡ Inner cell contents ∷ []
  pub places : AreMoves (insts_at d cell) contents.insts found

-- the use that such a place is
abbrev pub use_at : CellId → Move → UsedAt
use_at cell m = record { cell = cell; inst = m.place }

-- the index with the use of what stands at a place afterwards, without that, and without the use of what stood there
abbrev pub put_new : CellId → Move → List (List (List UsedAt)) → List (List (List UsedAt))
put_new cell m index = option_map_or (λ of. put_in of (use_at cell m) index) m.new index

abbrev pub drop_new : CellId → Move → List (List (List UsedAt)) → List (List (List UsedAt))
drop_new cell m index = option_map_or (λ of. drop_in of (use_at cell m) index) m.new index

abbrev pub drop_old : CellId → Move → List (List (List UsedAt)) → List (List (List UsedAt))
drop_old cell m index = option_map_or (λ of. drop_in of (use_at cell m) index) m.old index

-- the same for all these places, one after the other
abbrev pub with_news : CellId → List Move → List (List (List UsedAt)) → List (List (List UsedAt))
with_news cell [] index = index
with_news cell (m ∷ ms) index = with_news cell ms (put_new cell m index)

abbrev pub without_olds : CellId → List Move → List (List (List UsedAt)) → List (List (List UsedAt))
without_olds cell [] index = index
without_olds cell (m ∷ ms) index = without_olds cell ms (drop_old cell m index)
