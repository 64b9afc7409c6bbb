use Rattle.std.proofs.Common.{take}
use Rattle.std.specs.BTreeMap.{get}
use Rattle.ungroup_plans.specs.Links.{HasNets, bit_cmp}
use Rattle.ungroup_plans.proofs.links.nets_by_bit.Given as goal

abbrev pub invariant-loop-joined : goal.invariant-loop-joined
invariant-loop-joined l = HasNets (take l.joined-index l.bits) (get bit_cmp l.nets)
