use Rattle.std.proofs.Common.{sym}
use Rattle.flat_items.specs.Stand.{here_of, stand_of}
use Rattle.flat_items.proofs.StageLemmas.{over_left}
use Rattle.occ_walk.proofs.LeftLemmas.{some_left, some_settled}
use Rattle.occ_walk.proofs.steps.advance.Goals as goal

pub go_on-requires-clause-done : goal.go_on-requires-clause-done
go_on-requires-clause-done g c =
    over_left (g.S.Shown.design c.args.ground.now.design) (here_of (stand_of c.args.place.now)) c.args.place.now.stage (sym c.if-is_over.ensures)

pub returns-then-is_over-clause-some : goal.returns-then-is_over-clause-some
returns-then-is_over-clause-some g c =
    some_settled (g.S.Shown.design c.args.ground.now.design) c.requires.ground.valid (stand_of c.go_on.new.place) c.go_on.ensures.stands c.go_on.result c.go_on.ensures.gone

pub returns-clause-some : goal.returns-clause-some
returns-clause-some g c = λ is. some_left (g.S.Shown.design c.args.ground.now.design) c.requires.ground.valid (stand_of c.args.place.now) c.requires.stands (sym c.if-is_over.ensures)
