use Rattle.flat_spec.specs.Flattening.{flattening}
use Rattle.occ_walk.specs.Left.{left}
use Rattle.flat_items.specs.Stand.{stand_of}
use Rattle.par_flat.proofs.DeskLemmas.{further_on}
use Rattle.par_flat.proofs.desks.go_on.Goals as goal

pub returns-clause-left : goal.returns-clause-left
returns-clause-left g c =
    let d = c.args.ground.now in
    further_on (flattening d) (left d (stand_of c.args.seat.place)) (left d (stand_of c.skip_many.new.place)) c.args.seat.before c.args.first c.if-first-before.false c.requires.seat.left c.in_ok-skip_many.ensures.left
