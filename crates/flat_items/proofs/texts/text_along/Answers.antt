use Rattle.std.proofs.Common.{◌≡◌, ℕ, List, ap, arith, length, sym, take}
use Rattle.std.proofs.lemmas.List.{length-take-le}
use Rattle.flat_items.specs.Stand.{Stand, stand_of, top_of}
use Rattle.flat_items.specs.declared.place.Frame.{Frame}
use Rattle.flat_items.proofs.TextLemmas.{cell_is_below, end_fits, front_is, top_cell_is}
use Rattle.flat_items.proofs.texts.text_along.Goals as goal

pub slice_bounds-or_slash-end : goal.slice_bounds-or_slash-end
slice_bounds-or_slash-end g c =
    let fits = end_fits (g.S.Shown.design c.args.ground.now.design) (stand_of c.args.place.now) c.requires.stands c.args.count c.frame_along-frame.result.now c.frame_along-frame.ensures in
    let end : ℕ = c.frame_along-frame.result.now.end in
    sym (length-take-le end c.as_slice-text.result.now (omega (arith, fits, ap length c.as_slice-text.ensures.value)))

pub returns : goal.returns
returns g c =
    let d = g.S.Shown.design c.args.ground.now.design in
    let s : Stand = stand_of c.args.place.now in
    let frame : Frame = c.frame_along-frame.result.now in
    let path : List ℕ = take c.args.count s.path in
    let cut : take frame.end c.as_slice-text.result.now ≡ take frame.end s.text = ap (take frame.end) c.as_slice-text.ensures.value in
    record {
      text_is = c.or_slash.ensures d (top_of d).cell path (top_cell_is d c.requires.ground.top)
          (front_is d s c.requires.stands c.args.count frame (take frame.end c.as_slice-text.result.now) c.frame_along-frame.ensures cut);
      cell_is = cell_is_below d c.requires.ground.top path frame c.frame_along-frame.ensures;
    }
