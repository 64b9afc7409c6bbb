use Rattle.std.proofs.Common.{◌-◌, arith}
use Rattle.net_names.proofs.SearchLemmas.{step_up}
use Rattle.net_names.proofs.search.all_before.Goals as goal

pub returns : goal.returns
returns c = λ yes_is k d less.
    step_up c.args.joints.now c.requires c.args.inst (record { port = c.args.port; bit = c.args.bit }) (c.args.count - 1) _
    (omega (arith, c.if-count-joints.false, c.if-count-eq0.false)) (c.is_before.ensures.yes yes_is) k d (omega (arith, less, c.if-count-eq0.false))
