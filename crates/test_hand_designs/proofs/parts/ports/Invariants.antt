use Rattle.std.proofs.Common.{◌≡◌, map, take}
use Rattle.test_hand_designs.specs.Planned.{planned_port}
use Rattle.test_hand_designs.proofs.parts.ports.Given as goal

-- the ports so far
abbrev pub invariant-loop-plan : goal.invariant-loop-plan
invariant-loop-plan l = l.ports.items ≡ map planned_port (take l.plan-index l.plans)
