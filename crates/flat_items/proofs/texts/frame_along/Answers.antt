use Rattle.std.proofs.Common.{◌≡◌, ◌∙◌, ap, sym, Some, None, slice_get}
use Rattle.std.specs.Option.{option_copied}
use Rattle.flat_items.specs.Stand.{Stand, stand_of}
use Rattle.flat_items.specs.declared.place.Frame.{Frame}
use Rattle.flat_items.proofs.TextLemmas.{frame_above, frame_here}
use Rattle.flat_items.proofs.texts.frame_along.Goals as goal

pub returns-in-Some : goal.returns-in-Some
returns-in-Some g c =
    let s : Stand = stand_of c.args.place.now in
    let frame : Frame = c.in-Some.frame.now in
    let some : slice_get s.above c.args.count ≡ Some frame =
    ap (λ v. slice_get v c.args.count) (sym c.as_slice.ensures.value) ∙ sym c.frame_in.ensures ∙ ap option_copied c.in-Some.is in
    frame_above (g.S.Shown.design c.args.ground.now.design) s c.requires.stands c.args.count frame some

pub returns-in-None : goal.returns-in-None
returns-in-None g c =
    let s : Stand = stand_of c.args.place.now in
    let none : slice_get s.above c.args.count ≡ None =
    ap (λ v. slice_get v c.args.count) (sym c.as_slice.ensures.value) ∙ sym c.frame_in.ensures ∙ ap option_copied c.in-None.is in
    frame_here (g.S.Shown.design c.args.ground.now.design) s c.requires.stands c.args.count c.requires.count none
