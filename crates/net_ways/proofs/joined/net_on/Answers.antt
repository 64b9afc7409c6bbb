use Rattle.std.proofs.Common.{subst, sym}
use Rattle.std.specs.Option.{option_map}
use Rattle.flat_items.specs.Stand.{top_of}
use Rattle.net_ways.specs.Climb.{AreCellsOn, IsCellsAnswer}
use Rattle.net_ways.proofs.JoinedLemmas.{nowhere_on}
use Rattle.net_ways.proofs.joined.net_on.Goals as goal

pub outer_first-requires-clause-cells : goal.outer_first-requires-clause-cells
outer_first-requires-clause-cells g c =
    let d = g.S.Shown.design c.args.ground.now.design in
    subst (AreCellsOn d (top_of d).cell c.args.above.now) (sym c.as_slice.ensures.value)
    (subst (λ o. IsCellsAnswer d (top_of d).cell c.args.above.now (option_map (λ cells. cells.items) o)) c.in-Some.is c.in_ok-found.ensures)

pub returns-in-None : goal.returns-in-None
returns-in-None g c =
    let d = g.S.Shown.design c.args.ground.now.design in
    nowhere_on d c.args.ground.now.classes c.args.ground.now.notes c.requires.ground c.args.above.now c.args.step c.args.port c.args.bit
    (subst (λ o. IsCellsAnswer d (top_of d).cell c.args.above.now (option_map (λ cells. cells.items) o)) c.in-None.is c.in_ok-found.ensures)
