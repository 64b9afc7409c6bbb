use Rattle.design_model.specs.Items.{items_below}
use Rattle.design_model.proofs.ItemLemmas.{listed-reaches}
use Rattle.flat_spec.proofs.RunLemmas.{piece_more}
use Rattle.design_model.proofs.plain.list_items.Goals as goal

pub add_items-requires-clause-reached : goal.add_items-requires-clause-reached
add_items-requires-clause-reached g c =
    listed-reaches (g.S.Shown.design c.args.design.now) c.requires.valid.no_cycle c.args.nets.now.root c.args.listed.now
    c.loop-occurrence.occurrence-index c.occurrence-item.result c.requires.listed c.loop-occurrence-test.true c.occurrence-item.is

pub loop-occurrence-preserved : goal.loop-occurrence-preserved
loop-occurrence-preserved g c =
    piece_more (items_below (g.S.Shown.design c.args.design.now) c.args.nets.now.root) c.args.listed.now c.loop-occurrence.occurrence-index
    c.occurrence-item.result c.loop-occurrence.items.items c.add_items.new.items.items _ c.loop-occurrence-test.true c.occurrence-item.is
    c.in_ok-add_items.ensures c.loop-occurrence.invariant
