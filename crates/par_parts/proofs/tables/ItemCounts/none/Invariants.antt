use Rattle.std.proofs.Common.{◌≡◌, length, ℕ, slice_get}
use Rattle.std.specs.Prelude.{IfSome}
use Rattle.netlist_schema.specs.Design.{cells_in}
use Rattle.par_parts.proofs.tables.ItemCounts.none.Given as goal

abbrev pub invariant-loop-lib : goal.invariant-loop-lib
invariant-loop-lib g l = record {
  long : length l.rows.items ≡ l.lib;
  each : (lib : ℕ) → IfSome (slice_get l.rows.items lib) (λ row. length row.items ≡ length (cells_in (g.S.Shown.design l.design) (record { 0 = lib })));
}
