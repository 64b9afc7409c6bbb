use Rattle.std.proofs.Common.{◌∷◌, ◌∙◌, ap, drop, sym}
use Rattle.net_pins.specs.Spots.{left, stand_of}
use Rattle.net_pins.proofs.FoundLemmas.{if_ok_more}
use Rattle.net_pins.proofs.spot.pin_made.Goals as goal

pub returns : goal.returns
returns g c = if_ok_more c.made.result (λ item is. c.lent.ensures ∙ ap (λ v. v ∷ drop 1 (left c.args.asked.now (stand_of c.args.spot.now))) (sym is)) c.made.ensures
