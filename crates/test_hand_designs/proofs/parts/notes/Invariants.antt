use Rattle.std.proofs.Common.{◌≡◌, map, take}
use Rattle.test_hand_designs.specs.Planned.{planned_note}
use Rattle.test_hand_designs.proofs.parts.notes.Given as goal

-- the notes so far
abbrev pub invariant-loop-plan : goal.invariant-loop-plan
invariant-loop-plan l = l.notes.items ≡ map planned_note (take l.plan-index l.plans)
