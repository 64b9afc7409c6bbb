use Rattle.std.proofs.Common.{◌≡◌, take}
use Rattle.std.specs.Prelude.{is_some}
use Rattle.std.specs.List.{count_by}
use Rattle.uniquify_blocks.proofs.plan.count_copies.Given as goal

-- those so far are counted
abbrev pub invariant-loop-spot : goal.invariant-loop-spot
invariant-loop-spot l = l.count ≡ count_by (λ spot. is_some spot.twin) (take l.spot-index l.spots)
