-- The text of a list of items.
use Rattle.std.proofs.Common.{ℕ, List, ◌++◌}
use Rattle.netlist_schema.specs.Design.{Design}
use Rattle.flat_spec.specs.Types.{Item}
use Rattle.flat_csv_spec.specs.PinTable.{header, pin_rows}

-- the table of items that may be the flattening of the design
abbrev pub table_of : Design → List Item → List ℕ
table_of d items = header ++ pin_rows d items
