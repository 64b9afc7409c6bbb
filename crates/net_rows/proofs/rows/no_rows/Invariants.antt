use Rattle.std.proofs.Common.{◌≡◌, ℕ, length, slice_get}
use Rattle.std.specs.Prelude.{IfSome}
use Rattle.netlist_schema.specs.Design.{cells_in}
use Rattle.net_rows.proofs.rows.no_rows.Given as goal

abbrev pub invariant-loop-lib : goal.invariant-loop-lib
invariant-loop-lib g l = (length l.cells.items ≡ l.lib)
    × ((lib : ℕ) → IfSome (slice_get l.cells.items lib) (λ row. length row.items ≡ length (cells_in (g.S.Shown.design l.design) (record { 0 = lib }))))
