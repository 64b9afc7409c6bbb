use Rattle.std.proofs.Common.{◌≡◌, map, take}
use Rattle.test_hand_designs.specs.Planned.{planned_end}
use Rattle.test_hand_designs.proofs.parts.ends.Given as goal

-- the ends so far
abbrev pub invariant-loop-plan : goal.invariant-loop-plan
invariant-loop-plan l = l.ends.items ≡ map planned_end (take l.plan-index l.plans)
