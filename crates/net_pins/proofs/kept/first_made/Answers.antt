use Rattle.std.proofs.Common.{◌∙◌}
use Rattle.net_pins.proofs.FoundLemmas.{if_ok_more}
use Rattle.net_pins.proofs.kept.first_made.Goals as goal

pub returns : goal.returns
returns g c = if_ok_more c.made.result (λ net is. is ∙ c.in_ok-first.ensures) c.made.ensures
