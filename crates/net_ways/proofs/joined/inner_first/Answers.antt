use Rattle.flat_items.specs.Lent.{net_of}
use Rattle.net_ways.proofs.ClimbLemmas.{reached_whole}
use Rattle.net_ways.proofs.JoinedLemmas.{none_inside, one_inside}
use Rattle.net_ways.proofs.joined.inner_first.Goals as goal

pub climb-requires-clause-net : goal.climb-requires-clause-net
climb-requires-clause-net g c =
    let d = g.S.Shown.design c.args.ground.now.design in
    let at = reached_whole d c.args.ground.now.classes c.args.ground.now.notes c.requires.ground c.args.path.now c.args.cells.now c.requires.cells c.in-Some.net c.cell_on-cell.result c.cell_on-cell.ensures in (
      c.cell_on-cell.result,
      c.cell_on-cell.ensures,
      (one_inside d c.args.ground.now.classes c.args.ground.now.notes c.requires.ground c.args.path.now c.args.port c.args.bit c.cell_on-cell.result at c.in-Some.net c.in-Some.ensures).0,
    )

pub returns-in-Some : goal.returns-in-Some
returns-in-Some g c =
    let d = g.S.Shown.design c.args.ground.now.design in
    let at = reached_whole d c.args.ground.now.classes c.args.ground.now.notes c.requires.ground c.args.path.now c.args.cells.now c.requires.cells c.in-Some.net c.cell_on-cell.result c.cell_on-cell.ensures in
    (one_inside d c.args.ground.now.classes c.args.ground.now.notes c.requires.ground c.args.path.now c.args.port c.args.bit c.cell_on-cell.result at c.in-Some.net c.in-Some.ensures).1 (net_of c.climb.result) c.climb.ensures

pub returns-in-None : goal.returns-in-None
returns-in-None g c =
    let d = g.S.Shown.design c.args.ground.now.design in
    let at = reached_whole d c.args.ground.now.classes c.args.ground.now.notes c.requires.ground c.args.path.now c.args.cells.now c.requires.cells 0 c.cell_on-cell.result c.cell_on-cell.ensures in
    none_inside d c.args.ground.now.classes c.args.ground.now.notes c.requires.ground c.args.path.now c.args.port c.args.bit c.cell_on-cell.result at c.in-None.ensures
