use Rattle.std.proofs.Common.{ap, ◌∙◌}
use Rattle.occ_walk.specs.At.{items_below}
use Rattle.flat_items.specs.Stand.{stand_of}
use Rattle.occ_walk.proofs.StartLemmas.{begun_left}
use Rattle.occ_walk.proofs.walk.begin.Goals as goal

pub returns-clause-left : goal.returns-clause-left
returns-clause-left g c =
    let ground = c.in_ok-ground.ground in
    begun_left (g.S.Shown.design ground.design) c.in_ok-ground.ensures.ground.valid c.in_ok-ground.ensures.ground.top c.args.path.now (stand_of c.go_along.new.place) c.in_ok-go_along.ensures
    ∙ ap (λ s. items_below (g.S.Shown.design s) c.args.path.now) c.in_ok-ground.ensures.design
