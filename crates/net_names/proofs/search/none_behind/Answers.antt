use Rattle.std.proofs.Common.{arith}
use Rattle.net_names.proofs.SearchLemmas.{step_down, not_true}
use Rattle.net_names.proofs.search.none_behind.Goals as goal

pub returns : goal.returns
returns c = λ yes_is k d past inside.
    step_down c.args.joints.now c.requires c.args.inst (record { port = c.args.port; bit = c.args.bit }) c.args.count _
    (omega (arith, c.if-count-joints.false)) (c.is_before.ensures.no (not_true c.is_before.result yes_is)) k d past inside
