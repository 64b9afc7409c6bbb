use Rattle.std.proofs.Common.{arith, refl, set, subst}
use Rattle.net_rows.specs.Rows.{AreSetAt, Table, lists_of}
use Rattle.net_rows.proofs.NestedLemmas.{table, table_past, table_set}
use Rattle.net_rows.proofs.rows.Rows.set.Goals as goal

pub returns-then-cell-len : goal.returns-then-cell-len
returns-then-cell-len c =
    subst (λ (v : Table). AreSetAt v c.args.cell (lists_of c.args.made) v) c.self.view_is
    (table_past (λ row. row.items) lists_of c.self.inside.cells.items c.args.cell c.args.made (omega (arith, c.if-cell-len.true, c.len.ensures)))

pub returns : goal.returns
returns c =
    subst (λ (old : Table). AreSetAt old c.args.cell (lists_of c.args.made) (table (λ row. row.items) lists_of (set c.self.inside.cells.items c.args.cell.lib.0 c.set_in.new.row))) c.self.view_is
    (table_set (λ row. row.items) lists_of c.self.inside.cells.items c.args.cell c.args.made (set c.self.inside.cells.items c.args.cell.lib.0 c.set_in.new.row) c.index_mut.result.now c.set_in.new.row (omega (arith, c.if-cell-len.false, c.len.ensures)) c.index_mut.ensures.value c.set_in.ensures refl)
