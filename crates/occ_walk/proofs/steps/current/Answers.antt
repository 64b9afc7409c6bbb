use Rattle.flat_items.specs.Stand.{stand_of}
use Rattle.occ_walk.proofs.LeftLemmas.{lent_ahead}
use Rattle.occ_walk.proofs.steps.current.Goals as goal

pub returns : goal.returns
returns g c = lent_ahead (g.S.Shown.design c.args.ground.now.design) (stand_of c.args.place.now) c.item_ahead.result c.item_ahead.ensures
