use Rattle.std.proofs.Common.{map, get_or, take}
use Rattle.std.proofs.lemmas.List.{get_or_default}
use Rattle.netlist_schema.specs.Types.{CellId}
use Rattle.net_classes.specs.Facts.{Facts, facts_of}
use Rattle.net_classes.proofs.KnownLemmas.{comes_behind, known_more}
use Rattle.net_classes.proofs.classes.tell_all.Goals as goal

pub loop-cell-preserved : goal.loop-cell-preserved
loop-cell-preserved g c =
    let d = g.S.Shown.design c.args.design.now in
    let below = c.args.below.now in
    let i = c.loop-cell.cell-index in
    let none : CellId = record { lib = record { 0 = 0 }; slot = 0 } in
    let cell : CellId = get_or below i none in
    let is = get_or_default below i none cell c.loop-cell-test.true in
    let facts : Facts = map (λ row. map facts_of row.items) c.loop-cell.cells.items in
    let new : Facts = map (λ row. map facts_of row.items) c.set_cell.new.cells.items in
    let place = comes_behind d below i cell c.requires.behind c.loop-cell-test.true is in
    let told = c.in_ok-nets.ensures (take i below) c.requires.valid (rw c.as_slice.ensures.value c.loop-cell.invariant) place.children in
    known_more d below i cell (facts_of c.in_ok-nets.nets) facts new c.loop-cell-test.true is c.requires.behind
    (c.requires.there i none c.loop-cell-test.true) c.loop-cell.invariant told c.set_cell.ensures
