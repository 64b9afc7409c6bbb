use Rattle.std.proofs.Common.{◌++◌, ap, ◌∙◌}
use Rattle.uniquify_copies.proofs.SomeReads.{some_then}
use Rattle.uniquify_copies.proofs.InnerLemmas.{no_more, one_more}
use Rattle.uniquify_copies.specs.Changes.{fresh_for}
use Rattle.uniquify_copies.proofs.change.copies.Goals as goal

pub loop-spot-preserved : goal.loop-spot-preserved
loop-spot-preserved g c =
    let s = g.C.Cells.state c.args.cells.now in
    record {
      made = one_more (fresh_for s.design) c.args.spots.now c.loop-spot.spot-index c.spot-item.result c.loop-spot.changes.items c.add_copy.new.changes.items _ c.loop-spot-test.true c.spot-item.is
          (c.in-Ok.ensures.added ∙ ap (λ d. c.loop-spot.changes.items ++ fresh_for d c.spot-item.result) c.loop-spot.invariant.some.design) c.loop-spot.invariant.made;
      some = some_then s (g.C.Cells.state c.loop-spot.cells) (g.C.Cells.state c.add_copy.new.cells) c.loop-spot.invariant.some c.in-Ok.ensures.some;
    }

pub returns-clause-made : goal.returns-clause-made
returns-clause-made g c =
    no_more (fresh_for (g.C.Cells.state c.args.cells.now).design) c.args.spots.now c.loop-spot.spot-index c.loop-spot.changes.items _ c.loop-spot-test.false c.loop-spot.invariant.made
