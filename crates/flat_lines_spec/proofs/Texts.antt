-- The text of a list of items.
use Rattle.std.proofs.Common.{ℕ, List, ◌++◌, Option}
use Rattle.netlist_schema.specs.Design.{Design}
use Rattle.flat_spec.specs.Types.{Item}
use Rattle.flat_lines_spec.specs.Lines.{item_lines, shown_items, last_line}

-- the lines up to the limit and the last line, of items that may be the flattening of the design
abbrev pub text_of : Design → Option ℕ → List Item → List ℕ
text_of d limit items = item_lines d (shown_items limit items) ++ last_line limit items
