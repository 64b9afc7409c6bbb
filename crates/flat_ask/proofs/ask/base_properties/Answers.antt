use Rattle.std.proofs.Common.{sym, subst}
use Rattle.std.specs.Option.{option_copied}
use Rattle.flat_ask.specs.Asks.{IsBase}
use Rattle.flat_ask.proofs.AskLemmas.{base_of_top}
use Rattle.flat_ask.proofs.ask.base_properties.Goals as goal

pub returns-in-Some : goal.returns-in-Some
returns-in-Some g c =
    subst (λ p. IsBase (g.S.Shown.design c.args.design.now) p (option_copied c.properties_below.result)) (sym c.in-Some.ensures.cases.0) c.properties_below.ensures

pub returns-in-None : goal.returns-in-None
returns-in-None g c = base_of_top (g.S.Shown.design c.args.design.now) c.args.path.now c.top_properties.result.now c.in-None.ensures.cases c.top_properties.ensures
