use Rattle.std.proofs.Common.{◌≡◌, map, take}
use Rattle.test_hand_designs.specs.Planned.{planned_property}
use Rattle.test_hand_designs.proofs.parts.properties.Given as goal

-- the properties so far
abbrev pub invariant-loop-plan : goal.invariant-loop-plan
invariant-loop-plan l = l.properties.items ≡ map planned_property (take l.plan-index l.plans)
