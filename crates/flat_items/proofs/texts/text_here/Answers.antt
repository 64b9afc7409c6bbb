use Rattle.std.proofs.Common.{◌∙◌}
use Rattle.flat_items.specs.Stand.{Stand, stand_of, top_of}
use Rattle.flat_items.proofs.TextLemmas.{cell_is_below, top_cell_is}
use Rattle.flat_items.proofs.texts.text_here.Goals as goal

pub returns-clause-path : goal.returns-clause-path
returns-clause-path g c =
    let d = g.S.Shown.design c.args.ground.now.design in
    let s : Stand = stand_of c.args.place.now in
    record {
      text_is = c.or_slash.ensures d (top_of d).cell s.path (top_cell_is d c.requires.ground.top) (c.as_slice.ensures.value ∙ c.requires.stands.text_is);
      cell_is = cell_is_below d c.requires.ground.top s.path s.here c.requires.stands.here;
    }
