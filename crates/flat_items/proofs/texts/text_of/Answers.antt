use Rattle.std.proofs.Common.{refl, subst}
use Rattle.flat_items.specs.Texts.{IsPathText}
use Rattle.flat_items.proofs.texts.text_of.Goals as goal

pub text_along-requires-clause-count : goal.text_along-requires-clause-count
text_along-requires-clause-count g c = c.requires.front.0

pub returns : goal.returns
returns g c = record {
  at = subst (λ p. IsPathText (g.S.Shown.design c.args.ground.now.design) p c.text_along.result) c.requires.front.1 c.text_along.ensures;
  net_is = refl;
}
