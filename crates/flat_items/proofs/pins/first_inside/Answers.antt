use Rattle.std.proofs.Common.{sym, ap, ◌∙◌, Some, None}
use Rattle.std.specs.Option.{option_map}
use Rattle.flat_spec.specs.Paths.{Bit, at_root, own}
use Rattle.flat_spec.specs.Representatives.{representative}
use Rattle.flat_spec.proofs.PathLemmas.{Joins-net}
use Rattle.flat_items.specs.Stand.{top_of}
use Rattle.flat_items.proofs.PinLemmas.{pin_inside}
use Rattle.flat_items.proofs.pins.first_inside.Goals as goal

pub first_of-requires-clause-net : goal.first_of-requires-clause-net
first_of-requires-clause-net g c =
    let d = g.S.Shown.design c.args.ground.now.design in
    let b : Bit = record { port = c.args.pin.port; bit = c.args.pin.bit } in
    let inside = pin_inside d c.args.ground.now.classes c.args.ground.now.notes c.requires.ground c.args.top.now c.requires.top c.args.pin.number b c.requires.pin (Some c.in-Some.net) c.in-Some.ensures in
    Joins-net d c.args.top.now.cell (at_root c.in-Some.net) (own b) inside.answer

pub returns-in-Some-clause-net : goal.returns-in-Some-clause-net
returns-in-Some-clause-net g c =
    let d = g.S.Shown.design c.args.ground.now.design in
    let b : Bit = record { port = c.args.pin.port; bit = c.args.pin.bit } in
    let inside = pin_inside d c.args.ground.now.classes c.args.ground.now.notes c.requires.ground c.args.top.now c.requires.top c.args.pin.number b c.requires.pin (Some c.in-Some.net) c.in-Some.ensures in
    ap Some c.first_of.ensures.net ∙ ap (option_map (representative d (top_of d).cell)) (sym inside.pin)

pub returns-in-None-clause-net : goal.returns-in-None-clause-net
returns-in-None-clause-net g c =
    let d = g.S.Shown.design c.args.ground.now.design in
    let b : Bit = record { port = c.args.pin.port; bit = c.args.pin.bit } in
    let inside = pin_inside d c.args.ground.now.classes c.args.ground.now.notes c.requires.ground c.args.top.now c.requires.top c.args.pin.number b c.requires.pin None c.in-None.ensures in
    ap (option_map (representative d (top_of d).cell)) (sym inside.pin)
