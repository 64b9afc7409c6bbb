use Rattle.std.proofs.Common.{subst, sym}
use Rattle.std.specs.List.{AllPairs}
use Rattle.flat_spec.specs.Paths.{Bit}
use Rattle.flat_items.specs.Lent.{net_of}
use Rattle.net_classes.specs.Joints.{IsNotBehind}
use Rattle.net_names.specs.Search.{IsNetFound}
use Rattle.net_ways.specs.Ways.{joints_in}
use Rattle.net_ways.proofs.ClimbLemmas.{ordered, reached_whole}
use Rattle.net_ways.proofs.JoinedLemmas.{none_on, one_on}
use Rattle.net_ways.proofs.joined.outer_first.Goals as goal

pub joined_net-requires : goal.joined_net-requires
joined_net-requires g c =
    let d = g.S.Shown.design c.args.ground.now.design in
    let at = reached_whole d c.args.ground.now.classes c.args.ground.now.notes c.requires.ground c.args.above.now c.args.cells.now c.requires.cells 0 c.cell_on-cell.result c.cell_on-cell.ensures in
    subst (AllPairs IsNotBehind) (sym c.joints.ensures) (ordered d c.args.ground.now.classes c.args.ground.now.notes c.requires.ground c.args.above.now c.cell_on-cell.result at)

pub climb-requires-clause-net : goal.climb-requires-clause-net
climb-requires-clause-net g c =
    let d = g.S.Shown.design c.args.ground.now.design in
    let at = reached_whole d c.args.ground.now.classes c.args.ground.now.notes c.requires.ground c.args.above.now c.args.cells.now c.requires.cells 0 c.cell_on-cell.result c.cell_on-cell.ensures in
    let b : Bit = record { port = c.args.pin.port; bit = c.args.pin.bit } in
    let found = subst (λ js. IsNetFound js c.args.pin.inst b c.joined_net.result) c.joints.ensures c.joined_net.ensures in (
      c.cell_on-cell.result,
      c.cell_on-cell.ensures,
      (one_on d c.args.ground.now.classes c.args.ground.now.notes c.requires.ground c.args.above.now c.args.pin.inst c.args.pin.port c.args.pin.bit c.cell_on-cell.result at c.in-Some.net
          (subst (λ o. IsNetFound (joints_in c.args.ground.now.classes c.cell_on-cell.result) c.args.pin.inst b o) c.in-Some.is found)).0,
    )

pub returns-in-Some : goal.returns-in-Some
returns-in-Some g c =
    let d = g.S.Shown.design c.args.ground.now.design in
    let at = reached_whole d c.args.ground.now.classes c.args.ground.now.notes c.requires.ground c.args.above.now c.args.cells.now c.requires.cells 0 c.cell_on-cell.result c.cell_on-cell.ensures in
    let b : Bit = record { port = c.args.pin.port; bit = c.args.pin.bit } in
    let found = subst (λ js. IsNetFound js c.args.pin.inst b c.joined_net.result) c.joints.ensures c.joined_net.ensures in
    (one_on d c.args.ground.now.classes c.args.ground.now.notes c.requires.ground c.args.above.now c.args.pin.inst c.args.pin.port c.args.pin.bit c.cell_on-cell.result at c.in-Some.net
    (subst (λ o. IsNetFound (joints_in c.args.ground.now.classes c.cell_on-cell.result) c.args.pin.inst b o) c.in-Some.is found)).1 (net_of c.climb.result) c.climb.ensures

pub returns-in-None : goal.returns-in-None
returns-in-None g c =
    let d = g.S.Shown.design c.args.ground.now.design in
    let at = reached_whole d c.args.ground.now.classes c.args.ground.now.notes c.requires.ground c.args.above.now c.args.cells.now c.requires.cells 0 c.cell_on-cell.result c.cell_on-cell.ensures in
    let b : Bit = record { port = c.args.pin.port; bit = c.args.pin.bit } in
    let found = subst (λ js. IsNetFound js c.args.pin.inst b c.joined_net.result) c.joints.ensures c.joined_net.ensures in
    none_on d c.args.ground.now.classes c.args.ground.now.notes c.requires.ground c.args.above.now c.args.pin.inst c.args.pin.port c.args.pin.bit c.cell_on-cell.result at
    (subst (λ o. IsNetFound (joints_in c.args.ground.now.classes c.cell_on-cell.result) c.args.pin.inst b o) c.in-None.is found)
