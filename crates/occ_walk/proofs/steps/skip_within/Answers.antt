use Rattle.std.proofs.Common.{◌∙◌, ap, sym}
use Rattle.std.specs.Prelude.{not}
use Rattle.flat_items.specs.Stand.{here_of, stand_of}
use Rattle.occ_walk.proofs.FollowLemmas.{followed}
use Rattle.occ_walk.proofs.LeftLemmas.{over_behind, passed}
use Rattle.occ_walk.proofs.steps.skip_within.Goals as goal

pub returns-clause-stands : goal.returns-clause-stands
returns-clause-stands g c =
    (passed (g.S.Shown.design c.args.ground.now.design) c.requires.ground.valid (stand_of c.args.place.now) c.stage_behind-stage.result c.requires.stands c.stage_behind-stage.ensures).0

pub returns-clause-passed : goal.returns-clause-passed
returns-clause-passed g c = λ done.
    (passed (g.S.Shown.design c.args.ground.now.design) c.requires.ground.valid (stand_of c.args.place.now) c.stage_behind-stage.result c.requires.stands c.stage_behind-stage.ensures).1

pub returns-clause-over : goal.returns-clause-over
returns-clause-over g c = λ over.
    sym (over_behind (g.S.Shown.design c.args.ground.now.design) c.requires.ground.valid (here_of (stand_of c.args.place.now)) c.args.place.now.stage c.stage_behind-stage.result c.stage_behind-stage.ensures over)
    ∙ sym c.if-is_over.ensures

pub returns-then-is_over-clause-follows : goal.returns-then-is_over-clause-follows
returns-then-is_over-clause-follows g c =
    ap not c.if-is_over.ensures
    ∙ followed (g.S.Shown.design c.args.ground.now.design) c.requires.ground.valid (stand_of c.args.place.now) c.stage_behind-stage.result c.requires.stands c.stage_behind-stage.ensures

pub returns-clause-follows : goal.returns-clause-follows
returns-clause-follows g c =
    ap not c.if-is_over.ensures
    ∙ followed (g.S.Shown.design c.args.ground.now.design) c.requires.ground.valid (stand_of c.args.place.now) c.stage_behind-stage.result c.requires.stands c.stage_behind-stage.ensures
