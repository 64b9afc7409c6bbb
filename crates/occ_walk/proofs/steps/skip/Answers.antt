use Rattle.flat_items.specs.Stand.{stand_of}
use Rattle.occ_walk.proofs.LeftLemmas.{none_passed, passed}
use Rattle.occ_walk.proofs.steps.skip.Goals as goal

pub returns-clause-stands : goal.returns-clause-stands
returns-clause-stands g c =
    (passed (g.S.Shown.design c.args.ground.now.design) c.requires.ground.valid (stand_of c.args.place.now) c.stage_behind-place.result c.requires.stands c.stage_behind-place.ensures).0

pub returns-clause-passed : goal.returns-clause-passed
returns-clause-passed g c =
    (passed (g.S.Shown.design c.args.ground.now.design) c.requires.ground.valid (stand_of c.args.place.now) c.stage_behind-place.result c.requires.stands c.stage_behind-place.ensures).1

pub returns-clause-stays : goal.returns-clause-stays
returns-clause-stays g c = none_passed (g.S.Shown.design c.args.ground.now.design) (stand_of c.args.place.now) c.stage_behind-place.result c.stage_behind-place.ensures
