-- Where the cells of a design are used.
use Rattle.std.specs.Prelude.{ℕ, Bool, List, Option, if◌then◌else◌, nat_eq, nat_lt, option_and_then, slice_get, length, map, filter}
use Rattle.std.specs.List.{enumerate_from, flat_map, range_with_len}
use Rattle.netlist_schema.specs.Design.{Design, cells_in}
use Rattle.netlist_schema.specs.Hierarchy.{insts_at}
use Rattle.netlist_schema.specs.Types.{CellId, Inst}
use Rattle.edit_rules_spec.specs.Paths.{same_cell}
use Rattle.used_spec.specs.declared.used_at.UsedAt.{UsedAt}

-- the cell at this place of this library
abbrev pub id_at : ℕ → ℕ → CellId
id_at lib slot = record { lib = record { 0 = lib }; slot = slot }

-- the first so many cells of a library
abbrev pub ids_of : ℕ → ℕ → List CellId
ids_of lib count = map (id_at lib) (range_with_len 0 count)

-- the number of cells of a library
abbrev pub count_in : Design → ℕ → ℕ
count_in d lib = length (cells_in d (record { 0 = lib }))

-- the cells of a design, in order of libraries
abbrev pub all_cells : Design → List CellId
all_cells d = flat_map (λ lib. ids_of lib (count_in d lib)) (range_with_len 0 (length d.libs))

-- an instance: where it stands, and the cell that it is of
pub record Placed : Type 0 where
  pub at : UsedAt
  pub of : CellId

abbrev pub placed_at : CellId → ℕ × Inst → Placed
placed_at cell p = record { at = record { cell = cell; inst = p.0 }; of = p.1.of }

-- instances of a cell's contents, from the first one on
abbrev pub placed_in : CellId → List Inst → List Placed
placed_in cell insts = map (placed_at cell) (enumerate_from 0 insts)

-- those of these cells
abbrev pub placed_in_all : Design → List CellId → List Placed
placed_in_all d cells = flat_map (λ cell. placed_in cell (insts_at d cell)) cells

-- the instances of a design, in order of libraries, cells and contents
abbrev pub all_placed : Design → List Placed
all_placed d = placed_in_all d (all_cells d)

-- where those of them stand that are of a cell
abbrev pub users_among : CellId → List Placed → List UsedAt
users_among cell placed = map (λ p. p.at) (filter (λ p. same_cell p.of cell) placed)

-- the uses of a cell in a design, in order
abbrev pub users : Design → CellId → List UsedAt
users d cell = users_among cell (all_placed d)

-- the uses of each cell of a design, by library and place
abbrev pub uses : Design → List (List (List UsedAt))
uses d = map (λ lib. map (users d) (ids_of lib (count_in d lib))) (range_with_len 0 (length d.libs))

-- the uses of a cell by such an index, none where it has no such cell
abbrev pub users_at : List (List (List UsedAt)) → CellId → Option (List UsedAt)
users_at index cell = option_and_then (λ cells. slice_get cells cell.slot) (slice_get index cell.lib.0)

-- a use comes before another: by library, place of the cell, and place of the instance
abbrev pub comes_before : UsedAt → UsedAt → Bool
comes_before a b =
    if nat_eq a.cell.lib.0 b.cell.lib.0
    then (if nat_eq a.cell.slot b.cell.slot then nat_lt a.inst b.inst else nat_lt a.cell.slot b.cell.slot)
    else nat_lt a.cell.lib.0 b.cell.lib.0
