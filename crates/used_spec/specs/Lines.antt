-- The uses of a design, as lines.
use Rattle.std.specs.Prelude.{ℕ, List, [], ◌∷◌, ◌++◌, codes, length, slice_get}
use Rattle.std.specs.List.{flat_map}
use Rattle.std.specs.Option.{option_map_or}
use Rattle.std.specs.Fmt.{decimal}
use Rattle.netlist_schema.specs.Design.{Design}
use Rattle.netlist_schema.specs.Hierarchy.{insts_at}
use Rattle.netlist_schema.specs.Types.{CellId}
use Rattle.flat_lines_spec.specs.Lines.{cell_text, lib_text, spaced}
use Rattle.used_spec.specs.Uses.{all_cells, users}
use Rattle.used_spec.specs.declared.used_at.UsedAt.{UsedAt}

-- the identifier of the instance of a use; nothing where there is no such instance
abbrev pub inst_text : Design → UsedAt → List ℕ
inst_text d at = option_map_or (λ inst. inst.name.id) (slice_get (insts_at d at.cell) at.inst) []

-- ` use LIB CELL INST`
abbrev pub use_line : Design → UsedAt → List ℕ
use_line d at = codes " " ++ spaced (codes "use" ∷ lib_text d at.cell ∷ cell_text d at.cell ∷ inst_text d at ∷ []) ++ 10 ∷ []

-- `cell LIB CELL uses N`, N the number of uses
abbrev pub cell_line : Design → CellId → ℕ → List ℕ
cell_line d cell count = spaced (codes "cell" ∷ lib_text d cell ∷ cell_text d cell ∷ codes "uses" ∷ decimal count ∷ []) ++ 10 ∷ []

-- a cell, and below it the places where it is used
abbrev pub cell_lines : Design → CellId → List ℕ
cell_lines d cell = cell_line d cell (length (users d cell)) ++ flat_map (use_line d) (users d cell)

-- `uses`, and the lines of each cell
abbrev pub uses_text : Design → List ℕ
uses_text d = codes "uses" ++ 10 ∷ flat_map (cell_lines d) (all_cells d)
