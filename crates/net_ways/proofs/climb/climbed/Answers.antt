use Rattle.std.proofs.Common.{arith, subst}
use Rattle.net_ways.specs.Ways.{IsOuter, ways_in}
use Rattle.net_ways.proofs.ClimbLemmas.{climb_ends, climb_on, climb_starts, climb_stops, lowest_has, outer_there, up_is_cell}
use Rattle.net_ways.proofs.climb.climbed.Goals as goal

pub first_inside-first-requires : goal.first_inside-first-requires
first_inside-first-requires g c =
    lowest_has (g.S.Shown.design c.args.ground.now.design) c.args.ground.now.classes c.args.ground.now.notes c.requires.ground c.args.path.now c.args.cells.now c.requires.cells c.args.net c.requires.net
    _ c.cell_on-lowest.result (omega arith) c.cell_on-lowest.ensures

pub up-init : goal.up-init
up-init g c =
    climb_starts (g.S.Shown.design c.args.ground.now.design) c.args.ground.now.classes c.args.ground.now.notes c.requires.ground c.args.path.now c.args.cells.now c.requires.cells c.args.net c.requires.net
    _ c.cell_on-lowest.result (omega arith) c.cell_on-lowest.ensures c.first_inside-first.result c.first_inside-first.ensures

pub outer_net-requires : goal.outer_net-requires
outer_net-requires g c =
    (c.requires.ways c.cell_on-up.result
    (up_is_cell (g.S.Shown.design c.args.ground.now.design) c.args.ground.now.classes c.args.ground.now.notes c.requires.ground c.args.path.now c.args.cells.now c.requires.cells c.args.net c.up.depth c.up.first
    (omega arith) c.up.invariant c.step_on-step.result c.step_on-step.ensures c.cell_on-up.result c.cell_on-up.ensures)).in_order

pub returns-in_default-clause-named : goal.returns-in_default-clause-named
returns-in_default-clause-named g c =
    let d = g.S.Shown.design c.args.ground.now.design in
    let up = c.cell_on-up.result in
    let step = c.step_on-step.result in
    let is_cell = up_is_cell d c.args.ground.now.classes c.args.ground.now.notes c.requires.ground c.args.path.now c.args.cells.now c.requires.cells c.args.net c.up.depth c.up.first (omega arith) c.up.invariant step
    c.step_on-step.ensures up c.cell_on-up.ensures in
    climb_stops d c.args.ground.now.classes c.args.ground.now.notes c.requires.ground c.args.path.now c.args.cells.now c.requires.cells c.args.net c.up.depth c.up.first (omega arith) c.up.invariant step
    c.step_on-step.ensures up c.cell_on-up.ensures (ways_in c.args.ways.now up) (c.requires.ways up is_cell)
    (subst (λ o. IsOuter (ways_in c.args.ways.now up) step c.up.first o) c.in_default.is c.outer_net.ensures)

pub first_inside-next-requires : goal.first_inside-next-requires
first_inside-next-requires g c =
    let d = g.S.Shown.design c.args.ground.now.design in
    let up = c.cell_on-up.result in
    let step = c.step_on-step.result in
    let is_cell = up_is_cell d c.args.ground.now.classes c.args.ground.now.notes c.requires.ground c.args.path.now c.args.cells.now c.requires.cells c.args.net c.up.depth c.up.first (omega arith) c.up.invariant step
    c.step_on-step.ensures up c.cell_on-up.ensures in
    outer_there d c.args.ground.now.classes c.args.ground.now.notes c.requires.ground c.args.path.now c.args.cells.now c.requires.cells c.args.net c.up.depth c.up.first (omega arith) c.up.invariant step
    c.step_on-step.ensures up c.cell_on-up.ensures (ways_in c.args.ways.now up) (c.requires.ways up is_cell) c.in-Some.outer
    (subst (λ o. IsOuter (ways_in c.args.ways.now up) step c.up.first o) c.in-Some.is c.outer_net.ensures)

pub up-preserved : goal.up-preserved
up-preserved g c =
    let d = g.S.Shown.design c.args.ground.now.design in
    let up = c.cell_on-up.result in
    let step = c.step_on-step.result in
    let is_cell = up_is_cell d c.args.ground.now.classes c.args.ground.now.notes c.requires.ground c.args.path.now c.args.cells.now c.requires.cells c.args.net c.up.depth c.up.first (omega arith) c.up.invariant step
    c.step_on-step.ensures up c.cell_on-up.ensures in
    climb_on d c.args.ground.now.classes c.args.ground.now.notes c.requires.ground c.args.path.now c.args.cells.now c.requires.cells c.args.net c.up.depth c.up.first (omega arith) c.up.invariant step
    c.step_on-step.ensures up c.cell_on-up.ensures (ways_in c.args.ways.now up) (c.requires.ways up is_cell) c.in-Some.outer c.first_inside-next.result
    (subst (λ o. IsOuter (ways_in c.args.ways.now up) step c.up.first o) c.in-Some.is c.outer_net.ensures) c.first_inside-next.ensures

pub returns-clause-named : goal.returns-clause-named
returns-clause-named g c =
    climb_ends (g.S.Shown.design c.args.ground.now.design) c.args.ground.now.classes c.args.ground.now.notes c.requires.ground c.args.path.now c.args.cells.now c.requires.cells c.args.net c.up.depth c.up.first
    (omega arith) c.up.invariant
