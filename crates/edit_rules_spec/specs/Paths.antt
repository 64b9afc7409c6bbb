-- Cells below cells, and paths from the top, as tests.
use Rattle.std.specs.Prelude.{◌==◌, ◌&&◌, ◌||◌, ℕ, zero, suc, Bool, true, false, not, List, [], ◌∷◌, Option, Some, None, length}
use Rattle.std.specs.List.{list_any}
use Rattle.std.specs.Option.{option_map_or}
use Rattle.netlist_schema.specs.Design.{Design}
use Rattle.netlist_schema.specs.Hierarchy.{insts_at}
use Rattle.netlist_schema.specs.Types.{CellId, TopHead}
use Rattle.edit_rules_spec.specs.Find.{is_name, inst_named}

abbrev pub same_cell : CellId → CellId → Bool
same_cell a b = (a.lib.0 == b.lib.0) && (a.slot == b.slot)

-- the first cell is below the second, by at most this many levels
abbrev pub below_within : Design → ℕ → CellId → CellId → Bool
below_within d zero inner outer = false
below_within d (suc n) inner outer = list_any (λ inst. same_cell inst.of inner || below_within d n inner inst.of) (insts_at d outer)

-- no chain of cells is longer than the number of cells that a design may have
unfoldable pub most_cells : ℕ
most_cells = 67108864

abbrev pub is_below : Design → CellId → CellId → Bool
is_below d inner outer = below_within d most_cells inner outer

-- the path leads somewhere from a cell
abbrev pub resolves : Design → CellId → List (List ℕ) → Bool
resolves d at [] = true
resolves d at (step ∷ steps) = option_map_or (λ inst. resolves d inst.of steps) (inst_named step (insts_at d at)) false

-- the path goes through an instance of a cell, or ends at it
abbrev pub goes_through : Design → CellId → List ℕ → CellId → List (List ℕ) → Bool
goes_through d cell inst at [] = false
goes_through d cell inst at (step ∷ steps) =
    (same_cell at cell && is_name step inst) || option_map_or (λ next. goes_through d cell inst next.of steps) (inst_named step (insts_at d at)) false

-- a cell would be below itself with an instance
abbrev pub is_cyclic : Design → Option CellId → Option CellId → Bool
is_cyclic d None of = false
is_cyclic d (Some cell) None = false
is_cyclic d (Some cell) (Some of) = same_cell of cell || is_below d cell of

-- the path has a step and leads somewhere from the top
abbrev pub is_path : Design → Option TopHead → List (List ℕ) → Bool
is_path d None path = false
is_path d (Some top) path = not (length path == 0) && resolves d top.cell path
