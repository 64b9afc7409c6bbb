use Rattle.std.proofs.Common.{arith}
use Rattle.net_ways.proofs.ClimbLemmas.{first_climbed, is_net_on, own_of_no_such, reached_whole}
use Rattle.flat_items.specs.Lent.{net_of}
use Rattle.net_ways.proofs.climb.first_from.Goals as goal

pub climb-requires-clause-net : goal.climb-requires-clause-net
climb-requires-clause-net g c =
    is_net_on (g.S.Shown.design c.args.ground.now.design) c.args.ground.now.classes c.args.ground.now.notes c.requires.ground c.args.path.now c.args.cells.now c.requires.cells c.args.net c.cell_on-cell.result
    c.cell_on-cell.ensures (omega arith)

pub returns-then-net-net_count : goal.returns-then-net-net_count
returns-then-net-net_count g c =
    first_climbed (g.S.Shown.design c.args.ground.now.design) c.args.ground.now.classes c.args.ground.now.notes c.requires.ground c.args.path.now c.args.net (net_of c.climb.result) c.climb.ensures

pub returns-else-net-net_count : goal.returns-else-net-net_count
returns-else-net-net_count g c =
    own_of_no_such (g.S.Shown.design c.args.ground.now.design) c.args.ground.now.classes c.args.ground.now.notes c.requires.ground c.args.path.now c.args.net c.cell_on-cell.result
    (reached_whole (g.S.Shown.design c.args.ground.now.design) c.args.ground.now.classes c.args.ground.now.notes c.requires.ground c.args.path.now c.args.cells.now c.requires.cells c.args.net c.cell_on-cell.result c.cell_on-cell.ensures)
    (omega arith)
