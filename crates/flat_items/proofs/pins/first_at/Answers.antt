use Rattle.flat_items.proofs.TextLemmas.{first_below, first_of_top}
use Rattle.flat_items.proofs.pins.first_at.Goals as goal

pub returns-in-Some-clause-front : goal.returns-in-Some-clause-front
returns-in-Some-clause-front g c =
    let at = c.in-Some.ensures (g.S.Shown.design c.args.ground.now.design) c.requires.stands in
    first_below c.args.place.now.path.steps.items c.in-Some.parent.path.now c.in-Some.parent.step at.0 c.first_outside.result c.first_outside.ensures.front

pub returns-in-None-clause-front : goal.returns-in-None-clause-front
returns-in-None-clause-front g c =
    let top = c.in-None.ensures (g.S.Shown.design c.args.ground.now.design) c.requires.stands in
    first_of_top c.args.place.now.path.steps.items top c.first_inside.result c.first_inside.ensures.front
