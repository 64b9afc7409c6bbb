use Rattle.std.proofs.Common.{◌+◌, subst}
use Rattle.std.proofs.lemmas.Option.{same_Some}
use Rattle.flat_spec.specs.Flattening.{flattening}
use Rattle.occ_walk.specs.Left.{left}
use Rattle.flat_items.specs.Stand.{stand_of}
use Rattle.par_flat.specs.Desks.{IsSeat}
use Rattle.par_flat.proofs.DeskLemmas.{behind_more}
use Rattle.par_flat.proofs.lines.make_lines.Goals as goal

pub returns-clause-seat : goal.returns-clause-seat
returns-clause-seat g c = λ seat is.
    let d = c.args.ground.now in
    let stands : IsSeat d (record { before = c.args.first + c.in_ok-count.count; place = c.add_lines.new.place }) = record {
      stands = c.in_ok-count.ensures.stands;
      left = behind_more (flattening d) (left d (stand_of c.in_ok-place.place)) (left d (stand_of c.add_lines.new.place)) c.args.first c.in_ok-count.count c.in_ok-place.ensures.left
          c.in_ok-count.ensures.left;
    } in
    subst (IsSeat d) (same_Some _ seat is) stands
