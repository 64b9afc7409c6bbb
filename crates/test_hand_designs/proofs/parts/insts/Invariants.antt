use Rattle.std.proofs.Common.{◌≡◌, map, take}
use Rattle.test_hand_designs.specs.Planned.{planned_inst}
use Rattle.test_hand_designs.proofs.parts.insts.Given as goal

-- the insts so far
abbrev pub invariant-loop-plan : goal.invariant-loop-plan
invariant-loop-plan l = l.insts.items ≡ map planned_inst (take l.plan-index l.plans)
