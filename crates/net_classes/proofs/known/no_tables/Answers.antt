use Rattle.std.proofs.Common.{rules, ◌≡◌, ◌++◌, ◌∷◌, [], ℕ, length, arith, sym, ap, ◌∙◌}
use Rattle.netlist_schema.specs.Design.{cells_in}
use Rattle.net_classes.specs.Facts.{facts_of}
use Rattle.net_classes.proofs.TableLemmas.{IsBlankRow, known_none, rows_more}
use Rattle.net_classes.proofs.known.no_tables.Goals as goal

pub loop-lib-preserved : goal.loop-lib-preserved
loop-lib-preserved g c =
    let counts : ℕ → ℕ = λ lib. length (cells_in (g.S.Shown.design c.args.design.now) (record { 0 = lib })) in
    let here : IsBlankRow facts_of (counts (length c.loop-lib.cells.items)) c.in_ok-row.row.items =
    (c.in_ok-row.ensures.long ∙ c.cell_count.ensures.value ∙ ap counts (sym c.loop-lib.invariant.long), c.in_ok-row.ensures.none) in
    let each = rows_more (λ row. row.items) facts_of c.loop-lib.cells.items c.in_ok-row.row counts c.loop-lib.invariant.each here in
    let items : c.push.new.self.items ≡ c.loop-lib.cells.items ++ c.in_ok-row.row ∷ [] = search rules in
    record { long = search rules; each = λ lib. rw items (each lib) }

pub returns-clause-none : goal.returns-clause-none
returns-clause-none g c =
    let all : length c.loop-lib.cells.items ≡ length (g.S.Shown.design c.args.design.now).libs =
    omega (arith, c.loop-lib.invariant.long, c.loop-lib-test.false, c.loop-lib.auto.lib-end, c.lib_count-lib-end.ensures.value) in
    known_none (λ row. row.items) facts_of (g.S.Shown.design c.args.design.now) c.loop-lib.cells.items all c.loop-lib.invariant.each
