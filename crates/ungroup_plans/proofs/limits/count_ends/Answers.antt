use Rattle.ungroup_plans.proofs.Counts.{count_all}
use Rattle.ungroup_plans.proofs.limits.count_ends.Goals as goal

pub returns : goal.returns
returns c = count_all c.args.nets.now c.loop-net.net-index c.loop-net.count _ c.loop-net-test.false c.loop-net.invariant.low c.loop-net.invariant.so_far
