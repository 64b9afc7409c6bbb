use Rattle.std.proofs.Common.{◌∙◌, ap, subst}
use Rattle.flat_spec.specs.Paths.{at_path}
use Rattle.flat_spec.specs.Representatives.{representative}
use Rattle.flat_spec.specs.Types.{NetAt}
use Rattle.flat_items.specs.Stand.{here_of, stand_of, top_of}
use Rattle.flat_items.specs.Texts.{IsFront, IsNetText}
use Rattle.flat_items.proofs.TextLemmas.{net_told}
use Rattle.flat_items.proofs.texts.net_text.Goals as goal

pub text_of-requires-clause-front : goal.text_of-requires-clause-front
text_of-requires-clause-front g c = subst (λ p. IsFront p c.first_of-first.result.path.now) c.as_slice.ensures.value c.first_of-first.ensures.front

pub returns : goal.returns
returns g c =
    let d = g.S.Shown.design c.args.ground.now.design in
    let named = c.first_of-first.ensures.net ∙ ap (λ p. representative d (top_of d).cell (at_path p c.args.net)) c.as_slice.ensures.value in
    net_told d (here_of (stand_of c.args.place.now)) c.args.net c.text_here.result c.text_of.result c.requires.net c.text_here.ensures.path
    (subst (λ (v : NetAt). IsNetText d v c.text_of.result) named c.text_of.ensures)
