use Rattle.std.proofs.Common.{◌≡◌}
use Rattle.where_used.specs.Moves.{moves}
use Rattle.where_used.proofs.moves.few_moves.Given as goal

-- those among the places so far are found
abbrev pub invariant-loop-place : goal.invariant-loop-place
invariant-loop-place l = l.found.items ≡ moves l.olds l.news l.place
