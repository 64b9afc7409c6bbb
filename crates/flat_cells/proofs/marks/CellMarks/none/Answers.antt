use Rattle.std.proofs.Common.{rules, ◌≡◌, ◌++◌, ◌∷◌, [], ℕ, length, sym, ap, ◌∙◌}
use Rattle.netlist_schema.specs.Design.{cells_in}
use Rattle.flat_cells.proofs.MarkLemmas.{IsBlankRow, rows_more}
use Rattle.flat_cells.proofs.marks.CellMarks.none.Goals as goal

pub loop-lib-preserved : goal.loop-lib-preserved
loop-lib-preserved g c =
    let counts : ℕ → ℕ = λ lib. length (cells_in (g.S.Shown.design c.args.design.now) (record { 0 = lib })) in
    let here : IsBlankRow (counts (length c.loop-lib.rows.items)) c.in_ok-row.row.items =
    (c.in_ok-row.ensures.long ∙ c.cell_count.ensures.value ∙ ap counts (sym c.loop-lib.invariant.long), c.in_ok-row.ensures.none) in
    let each = rows_more c.loop-lib.rows.items c.in_ok-row.row (λ row. row.items) counts c.loop-lib.invariant.each here in
    let items : c.push.new.self.items ≡ c.loop-lib.rows.items ++ c.in_ok-row.row ∷ [] = search rules in
    record { long = search rules; each = λ lib. rw items (each lib) }
