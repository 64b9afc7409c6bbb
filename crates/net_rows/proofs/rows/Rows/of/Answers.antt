use Rattle.std.proofs.Common.{ℕ, List, get_or, subst, sym}
use Rattle.std.proofs.lemmas.List.{get_or_default, take_all}
use Rattle.netlist_schema.specs.Types.{CellId}
use Rattle.net_rows.specs.Rows.{AreRows, lists_of}
use Rattle.net_rows.proofs.IndexLemmas.{no_rows_known, rows_more}
use Rattle.net_rows.proofs.rows.Rows.of.Goals as goal

abbrev none : CellId
none = record { lib = record { 0 = 0 }; slot = 0 }

pub loop-cell-init : goal.loop-cell-init
loop-cell-init g c = no_rows_known c.args.role (g.S.Shown.design c.args.design.now) c.args.classes.now c.in_ok-rows.rows c.in_ok-rows.ensures

pub loop-cell-preserved : goal.loop-cell-preserved
loop-cell-preserved g c =
    let i : ℕ = c.loop-cell.cell-index in
    let below : List CellId = c.args.below.now in
    let cell : CellId = get_or below i none in
    rows_more c.args.role (g.S.Shown.design c.args.design.now) c.args.classes.now below c.requires.behind i cell (lists_of c.in_ok-made.made) c.loop-cell.rows c.set.new.self c.loop-cell-test.true
    (sym (get_or_default below i cell none c.loop-cell-test.true)) (c.requires.there i none c.loop-cell-test.true) c.loop-cell.invariant c.in_ok-made.ensures c.set.ensures

pub returns : goal.returns
returns g c =
    subst (λ done. AreRows c.args.role (g.S.Shown.design c.args.design.now) c.args.classes.now done c.loop-cell.rows) (take_all c.loop-cell.cell-index c.args.below.now c.loop-cell-test.false) c.loop-cell.invariant.0
