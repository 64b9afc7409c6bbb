use Rattle.std.proofs.Common.{◌≡◌, length, ℕ, slice_get}
use Rattle.std.specs.Prelude.{IfSome}
use Rattle.netlist_schema.specs.Design.{cells_in}
use Rattle.net_classes.specs.Facts.{facts_of}
use Rattle.net_classes.proofs.TableLemmas.{IsBlankRow}
use Rattle.net_classes.proofs.known.no_tables.Given as goal

abbrev pub invariant-loop-lib : goal.invariant-loop-lib
invariant-loop-lib g l = record {
  long : length l.cells.items ≡ l.lib;
  each : (lib : ℕ) → IfSome (slice_get l.cells.items lib) (λ row. IsBlankRow facts_of (length (cells_in (g.S.Shown.design l.design) (record { 0 = lib }))) row.items);
}
