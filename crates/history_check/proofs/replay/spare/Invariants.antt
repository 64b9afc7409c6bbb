use Rattle.std.proofs.Common.{◌≡◌, ◌-◌, take}
use Rattle.history_check.specs.Follow.{said_by}
use Rattle.history_check.proofs.replay.spare.Given as goal

-- what the callers so far leave
abbrev pub invariant-loop-place : goal.invariant-loop-place
invariant-loop-place l = l.left ≡ l.most - said_by (take l.place l.seats)
