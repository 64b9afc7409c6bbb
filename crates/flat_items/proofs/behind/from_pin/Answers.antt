use Rattle.std.proofs.Common.{sym, ap, ◌∙◌, slice_get}
use Rattle.flat_items.proofs.StageLemmas.{pin_ends}
use Rattle.flat_items.proofs.behind.from_pin.Goals as goal

pub returns-in-None : goal.returns-in-None
returns-in-None c = λ d o ports is.
    pin_ends d o c.args.pin (ap (λ v. slice_get v c.args.pin.port) (sym ports) ∙ sym c.in-None.ensures) is
