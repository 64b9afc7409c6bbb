use Rattle.std.proofs.Common.{refl, sym, ap, ◌∙◌, Some, None}
use Rattle.std.specs.Option.{option_map}
use Rattle.flat_spec.specs.Paths.{Bit, at_root, on}
use Rattle.flat_spec.specs.Representatives.{representative}
use Rattle.flat_spec.proofs.PathLemmas.{Joins-net}
use Rattle.flat_items.specs.Stand.{top_of}
use Rattle.flat_items.proofs.PinLemmas.{joints_ordered, pin_outside}
use Rattle.flat_items.proofs.pins.first_outside.Goals as goal

pub joined_net-requires : goal.joined_net-requires
joined_net-requires g c =
    joints_ordered (g.S.Shown.design c.args.ground.now.design) c.args.ground.now.classes c.args.ground.now.notes c.requires.ground
    c.args.parent.path.now c.args.parent.frame.now c.requires.parent c.joints-joints.result.now c.joints-joints.ensures

pub first_of-requires-clause-net : goal.first_of-requires-clause-net
first_of-requires-clause-net g c =
    let d = g.S.Shown.design c.args.ground.now.design in
    let b : Bit = record { port = c.args.pin.port; bit = c.args.pin.bit } in
    let outside = pin_outside d c.args.ground.now.classes c.args.ground.now.notes c.requires.ground c.args.parent.path.now c.args.parent.frame.now c.requires.parent
    c.args.parent.step b c.joints-joints.result.now c.joints-joints.ensures (Some c.in-Some.net) c.in-Some.ensures in
    Joins-net d c.args.parent.frame.now.cell (at_root c.in-Some.net) (on c.args.parent.step b) (outside.joins c.in-Some.net refl)

pub returns-in-Some-clause-net : goal.returns-in-Some-clause-net
returns-in-Some-clause-net g c =
    let d = g.S.Shown.design c.args.ground.now.design in
    let b : Bit = record { port = c.args.pin.port; bit = c.args.pin.bit } in
    let outside = pin_outside d c.args.ground.now.classes c.args.ground.now.notes c.requires.ground c.args.parent.path.now c.args.parent.frame.now c.requires.parent
    c.args.parent.step b c.joints-joints.result.now c.joints-joints.ensures (Some c.in-Some.net) c.in-Some.ensures in
    ap Some c.first_of.ensures.net ∙ ap (option_map (representative d (top_of d).cell)) (sym outside.pin)

pub returns-in-None-clause-net : goal.returns-in-None-clause-net
returns-in-None-clause-net g c =
    let d = g.S.Shown.design c.args.ground.now.design in
    let b : Bit = record { port = c.args.pin.port; bit = c.args.pin.bit } in
    let outside = pin_outside d c.args.ground.now.classes c.args.ground.now.notes c.requires.ground c.args.parent.path.now c.args.parent.frame.now c.requires.parent
    c.args.parent.step b c.joints-joints.result.now c.joints-joints.ensures None c.in-None.ensures in
    ap (option_map (representative d (top_of d).cell)) (sym outside.pin)
