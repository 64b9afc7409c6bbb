use Rattle.std.proofs.Common.{subst}
use Rattle.net_pins.specs.Moves.{IsBelowAt}
use Rattle.net_pins.proofs.spot.below_at.Goals as goal

pub returns : goal.returns
returns g c = subst (λ q. IsBelowAt q.design c.args.cell c.args.inst c.below_in.result) c.asked.view_is c.below_in.ensures
