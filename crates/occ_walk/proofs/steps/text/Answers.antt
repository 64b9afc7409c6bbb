use Rattle.flat_items.specs.Stand.{stand_of}
use Rattle.occ_walk.proofs.LeftLemmas.{text_lent}
use Rattle.occ_walk.proofs.steps.text.Goals as goal

pub returns : goal.returns
returns g c = text_lent (g.S.Shown.design c.args.ground.now.design) (stand_of c.args.place.now) c.text_ahead.result c.text_ahead.ensures
