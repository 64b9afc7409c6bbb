use Rattle.std.proofs.Common.{rules, ◌≡◌, ◌++◌, ◌∷◌, [], ℕ, length, arith, sym, ap, ◌∙◌}
use Rattle.netlist_schema.specs.Design.{cells_in}
use Rattle.par_parts.proofs.RoomLemmas.{rows_more, rows_room}
use Rattle.par_parts.proofs.tables.ItemCounts.none.Goals as goal

pub loop-lib-preserved : goal.loop-lib-preserved
loop-lib-preserved g c =
    let counts : ℕ → ℕ = λ lib. length (cells_in (g.S.Shown.design c.args.design.now) (record { 0 = lib })) in
    let here : length c.in_ok-row.row.items ≡ counts (length c.loop-lib.rows.items) =
    c.in_ok-row.ensures ∙ c.cell_count.ensures.value ∙ ap counts (sym c.loop-lib.invariant.long) in
    let each = rows_more (λ row. row.items) c.loop-lib.rows.items c.in_ok-row.row counts c.loop-lib.invariant.each here in
    let items : c.push.new.self.items ≡ c.loop-lib.rows.items ++ c.in_ok-row.row ∷ [] = search rules in
    record { long = search rules; each = λ lib. rw items (each lib) }

pub returns : goal.returns
returns g c = λ cell is.
    let all : length c.loop-lib.rows.items ≡ length (g.S.Shown.design c.args.design.now).libs =
    omega (arith, c.loop-lib.invariant.long, c.loop-lib-test.false, c.loop-lib.auto.lib-end, c.lib_count-lib-end.ensures.value) in
    rows_room (λ row. row.items) (g.S.Shown.design c.args.design.now) c.loop-lib.rows.items all c.loop-lib.invariant.each cell is
