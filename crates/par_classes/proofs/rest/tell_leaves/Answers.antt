use Rattle.std.proofs.Common.{get_or, sym}
use Rattle.std.proofs.lemmas.List.{get_or_default}
use Rattle.netlist_schema.specs.Types.{CellId}
use Rattle.par_classes.proofs.rest.tell_leaves.Goals as goal

pub tell_leaf-requires-clause-there : goal.tell_leaf-requires-clause-there
tell_leaf-requires-clause-there g c = c.requires.there c.loop-cell.cell-index (record { lib = record { 0 = 0 }; slot = 0 }) c.loop-cell-test.true

pub loop-cell-preserved : goal.loop-cell-preserved
loop-cell-preserved g c =
    let below = c.args.below.now in
    let i = c.loop-cell.cell-index in
    let none : CellId = record { lib = record { 0 = 0 }; slot = 0 } in
    let cell : CellId = get_or below i none in
    c.in_ok-tell_leaf.ensures below c.loop-cell.invariant (i, c.loop-cell-test.true, sym (get_or_default below i none cell c.loop-cell-test.true))
