use Rattle.std.proofs.Common.{◌∙◌}
use Rattle.std.proofs.lemmas.Result.{IfOk-weaker}
use Rattle.design_model.specs.Items.{bit_at}
use Rattle.design_model.proofs.PinLemmas.{net_at_pin-step}
use Rattle.design_model.proofs.pins.net_at_pin.Goals as goal

pub returns-in-Some : goal.returns-in-Some
returns-in-Some g c =
    IfOk-weaker c.net_joining-in-Some.result _ _
    (λ net is.
    is
    ∙ net_at_pin-step (g.S.Shown.design c.args.design.now) c.args.root c.args.path.now c.in-Some.above.now c.in-Some.step.now
    (bit_at c.args.port c.args.bit) c.in-Some.ensures.cases.0)
    c.net_joining-in-Some.ensures
