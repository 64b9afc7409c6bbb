use Rattle.std.proofs.Common.{◌≡◌, ◌++◌, drop}
use Rattle.netlist_schema.specs.Design.{cells_in}
use Rattle.edif_spec.specs.Arranged.{new_cells}
use Rattle.used_keep.proofs.cells.new_cells.Given as goal

-- those so far and the rest are all
abbrev pub invariant-loop-slot : goal.invariant-loop-slot
invariant-loop-slot g l =
    l.made.items ++ new_cells l.places (cells_in (g.S.Shown.design l.design) l.lib) (drop l.slot-index l.slots)
    ≡ new_cells l.places (cells_in (g.S.Shown.design l.design) l.lib) l.slots
