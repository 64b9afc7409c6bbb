use Rattle.std.proofs.Common.{◌≡◌, subst, sym}
use Rattle.std.specs.Prelude.{IfOk}
use Rattle.std.specs.Option.{option_map}
use Rattle.flat_items.specs.Lent.{net_of as net_lent}
use Rattle.ask_spec.specs.Nets.{net_of}
use Rattle.net_ways.proofs.JoinedLemmas.{one_side}
use Rattle.net_ways.proofs.joined.net_joined.Goals as goal

pub returns-in-Some : goal.returns-in-Some
returns-in-Some g c =
    let d = g.S.Shown.design c.args.ground.now.design in
    subst (λ p. IfOk c.net_on.result (λ found. option_map net_lent found ≡ net_of d p c.args.port c.args.bit)) (sym c.in-Some.ensures.cases.0) c.net_on.ensures

pub returns-in-None : goal.returns-in-None
returns-in-None g c =
    let d = g.S.Shown.design c.args.ground.now.design in
    subst (λ v. IfOk c.net_inside.result (λ found. option_map net_lent found ≡ v)) (one_side d c.args.path.now c.args.port c.args.bit c.in-None.ensures.cases) c.net_inside.ensures
