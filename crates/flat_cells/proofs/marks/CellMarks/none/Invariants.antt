use Rattle.std.proofs.Common.{◌≡◌, false, length, ℕ, slice_get}
use Rattle.std.specs.Prelude.{IfSome}
use Rattle.std.specs.List.{All}
use Rattle.netlist_schema.specs.Design.{cells_in}
use Rattle.flat_cells.proofs.marks.CellMarks.none.Given as goal

abbrev pub invariant-loop-lib : goal.invariant-loop-lib
invariant-loop-lib g l = record {
  long : length l.rows.items ≡ l.lib;
  each : (lib : ℕ) → IfSome (slice_get l.rows.items lib) (λ row. (length row.items ≡ length (cells_in (g.S.Shown.design l.design) (record { 0 = lib }))) × All (λ mark. mark ≡ false) row.items);
}
