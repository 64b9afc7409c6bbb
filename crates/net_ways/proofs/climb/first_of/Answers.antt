use Rattle.std.proofs.Common.{subst, sym}
use Rattle.std.specs.Option.{option_map}
use Rattle.flat_items.specs.Stand.{top_of}
use Rattle.net_ways.specs.Climb.{AreCellsOn, IsCellsAnswer}
use Rattle.net_ways.proofs.ClimbLemmas.{own_of_no_path}
use Rattle.net_ways.proofs.climb.first_of.Goals as goal

pub first_from-requires-clause-cells : goal.first_from-requires-clause-cells
first_from-requires-clause-cells g c =
    let d = g.S.Shown.design c.args.ground.now.design in
    subst (AreCellsOn d (top_of d).cell c.args.path.now) (sym c.as_slice.ensures.value)
    (subst (λ o. IsCellsAnswer d (top_of d).cell c.args.path.now (option_map (λ cells. cells.items) o)) c.in-Some.is c.in_ok-found.ensures)

pub returns-in-None : goal.returns-in-None
returns-in-None g c =
    let d = g.S.Shown.design c.args.ground.now.design in
    own_of_no_path d c.args.ground.now.classes c.args.ground.now.notes c.requires.ground c.args.path.now c.args.net
    (subst (λ o. IsCellsAnswer d (top_of d).cell c.args.path.now (option_map (λ cells. cells.items) o)) c.in-None.is c.in_ok-found.ensures)
