use Rattle.std.proofs.Common.{◌≡◌, take}
use Rattle.db_work.proofs.outside.are_equal.Given as goal

-- the properties so far are the same
abbrev pub invariant-loop-place : goal.invariant-loop-place
invariant-loop-place l = take l.place l.a ≡ take l.place l.b
