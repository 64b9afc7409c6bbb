use Rattle.std.proofs.Common.{get_or}
use Rattle.std.proofs.lemmas.List.{get_or_default}
use Rattle.netlist_schema.specs.Types.{CellId}
use Rattle.par_parts.proofs.CountLemmas.{counted_all, counted_more, counted_none}
use Rattle.par_parts.proofs.counts.count_all.Goals as goal

pub loop-cell-init : goal.loop-cell-init
loop-cell-init g c = counted_none (g.S.Shown.design c.args.design.now) c.args.counts.now c.requires.room

pub loop-cell-preserved : goal.loop-cell-preserved
loop-cell-preserved g c =
    let d = g.S.Shown.design c.args.design.now in
    let below = c.args.below.now in
    let i = c.loop-cell.cell-index in
    let none : CellId = record { lib = record { 0 = 0 }; slot = 0 } in
    let cell : CellId = get_or below i none in
    let is = get_or_default below i none cell c.loop-cell-test.true in
    counted_more d below i cell c.count_cell-count.result c.loop-cell.counts c.set.new.self c.requires.valid c.loop-cell-test.true is c.requires.behind
    (c.requires.there i none c.loop-cell-test.true) c.loop-cell.invariant c.count_cell-count.ensures c.set.ensures

pub returns : goal.returns
returns g c = counted_all (g.S.Shown.design c.args.design.now) c.args.below.now c.loop-cell.cell-index c.loop-cell.counts c.loop-cell-test.false c.loop-cell.invariant
