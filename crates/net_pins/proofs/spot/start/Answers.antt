use Rattle.std.proofs.Common.{◌∙◌, ap, false, refl}
use Rattle.net_pins.specs.Spots.{Question, Stand}
use Rattle.net_pins.proofs.FoundLemmas.{begins}
use Rattle.net_pins.proofs.StandLemmas.{all_left}
use Rattle.net_pins.proofs.spot.start.Goals as goal

pub returns-clause-stands : goal.returns-clause-stands
returns-clause-stands g c =
    let s : Stand = record { levels = c.new-levels.result.items; path = c.in_ok-path.path.items; port = 0; bit = 0; ready = false } in
    begins c.args.asked.now s c.new-levels.ensures.items (c.in_ok-path.ensures.items ∙ ap (λ (v : Question). v.first.path) c.asked.view_is) refl

pub returns-clause-left : goal.returns-clause-left
returns-clause-left g c =
    let s : Stand = record { levels = c.new-levels.result.items; path = c.in_ok-path.path.items; port = 0; bit = 0; ready = false } in
    all_left c.args.asked.now c.requires s (c.in_ok-path.ensures.items ∙ ap (λ (v : Question). v.first.path) c.asked.view_is) refl refl
