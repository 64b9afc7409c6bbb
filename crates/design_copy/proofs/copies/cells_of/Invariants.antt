use Rattle.std.proofs.Common.{◌≡◌, take}
use Rattle.netlist_schema.specs.Design.{cells_in}
use Rattle.design_copy.proofs.copies.cells_of.Given as goal

abbrev pub invariant-loop-slot : goal.invariant-loop-slot
invariant-loop-slot g l = l.made.items ≡ take l.slot (cells_in (g.S.Shown.design l.design) l.lib)
