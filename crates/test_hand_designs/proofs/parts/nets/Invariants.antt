use Rattle.std.proofs.Common.{◌≡◌, map, take}
use Rattle.test_hand_designs.specs.Planned.{planned_net}
use Rattle.test_hand_designs.proofs.parts.nets.Given as goal

-- the nets so far
abbrev pub invariant-loop-plan : goal.invariant-loop-plan
invariant-loop-plan l = l.nets.items ≡ map planned_net (take l.plan-index l.plans)
