use Rattle.std.proofs.Common.{◌≡◌, map, take}
use Rattle.test_hand_designs.specs.Planned.{lent}
use Rattle.test_hand_designs.proofs.parts.path.Given as goal

-- the steps so far
abbrev pub invariant-loop-id : goal.invariant-loop-id
invariant-loop-id l = l.path.items ≡ map lent (take l.id-index l.ids)
