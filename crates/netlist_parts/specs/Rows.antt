-- What rows stand for, in one piece or in pages.
use Rattle.std.specs.Prelude.{List}
use Rattle.std.specs.Arc.{arc_value}
use Rattle.netlist_parts.specs.declared.rows.Rows.{Rows}
use Rattle.netlist_parts.specs.declared.rows.Rows.TheVariants.{Few, Many}

-- their items
abbrev pub items_of : {T : Type 0} → Rows T → List T
items_of (Few items) = items.items
items_of (Many pages) = arc_value pages
