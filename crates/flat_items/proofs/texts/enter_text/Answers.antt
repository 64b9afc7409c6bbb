use Rattle.flat_items.specs.Stand.{here_of, stand_of}
use Rattle.flat_items.proofs.TextLemmas.{enter_told}
use Rattle.flat_items.proofs.texts.enter_text.Goals as goal

pub returns : goal.returns
returns g c =
    enter_told (g.S.Shown.design c.args.ground.now.design) (here_of (stand_of c.args.place.now)) c.text_here.result c.properties.result c.text_here.ensures.path
    c.text_here.ensures.cell c.properties.ensures
