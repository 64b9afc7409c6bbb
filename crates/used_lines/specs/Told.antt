-- The lines of a cell, by its uses.
use Rattle.std.specs.Prelude.{ℕ, List, [], ◌++◌, Option, length}
use Rattle.std.specs.List.{flat_map}
use Rattle.std.specs.Option.{option_map_or}
use Rattle.netlist_schema.specs.Design.{Design}
use Rattle.netlist_schema.specs.Types.{CellId}
use Rattle.used_spec.specs.Lines.{cell_line, use_line}
use Rattle.used_spec.specs.declared.used_at.UsedAt.{UsedAt}

-- the line of the cell and those of its uses; nothing where there is no such cell
abbrev pub told : Design → CellId → Option (List UsedAt) → List ℕ
told d cell users = option_map_or (λ us. cell_line d cell (length us) ++ flat_map (use_line d) us) users []
