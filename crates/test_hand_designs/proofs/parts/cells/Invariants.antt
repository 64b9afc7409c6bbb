use Rattle.std.proofs.Common.{◌≡◌, map, take}
use Rattle.test_hand_designs.specs.Planned.{planned_cell}
use Rattle.test_hand_designs.proofs.parts.cells.Given as goal

-- the cells so far
abbrev pub invariant-loop-plan : goal.invariant-loop-plan
invariant-loop-plan l = l.cells.items ≡ map planned_cell (take l.plan-index l.plans)
