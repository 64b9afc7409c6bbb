use Rattle.std.proofs.Common.{get_or}
use Rattle.std.proofs.lemmas.List.{get_or_default}
use Rattle.annot_view.specs.Lent.{lent}
use Rattle.flat_items.specs.Placed.{properties_at}
use Rattle.flat_items.proofs.EnterLemmas.{noted_more}
use Rattle.flat_items.proofs.noted.noted.Goals as goal

pub loop-place-preserved : goal.loop-place-preserved
loop-place-preserved c =
    noted_more c.args.notes.now c.args.places.now c.loop-place.place-index (get_or c.args.places.now c.loop-place.place-index 0)
    (lent c.loop-place.found.items) (lent c.add_noted.new.found.items) (properties_at c.args.notes.now c.args.places.now) c.loop-place-test.true
    (get_or_default c.args.places.now c.loop-place.place-index 0 _ c.loop-place-test.true) c.in_ok-add_noted.ensures c.loop-place.invariant
