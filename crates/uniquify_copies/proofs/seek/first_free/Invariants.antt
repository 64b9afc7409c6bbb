use Rattle.std.proofs.Common.{◌≡◌, ◌≤◌, ◌<◌, ℕ, false}
use Rattle.netlist_schema.specs.Design.{cells_in}
use Rattle.netlist_schema.specs.Names.{cell_names}
use Rattle.uniquify_spec.specs.Copies.{is_free, numbered}
use Rattle.edit_cells.specs.State.{HasReadSome}
use Rattle.uniquify_copies.proofs.seek.first_free.Given as goal

-- the numbers so far are taken
abbrev pub invariant-loop-number : goal.invariant-loop-number
invariant-loop-number g l = record {
  taken : (m : ℕ) → l.from ≤ m → m < l.number → is_free (cell_names (cells_in (g.C.Cells.state l.fn.cells).design l.lib)) (numbered l.id m) ≡ false;
  some : HasReadSome (g.C.Cells.state l.fn.cells) (g.C.Cells.state l.cells);
}
