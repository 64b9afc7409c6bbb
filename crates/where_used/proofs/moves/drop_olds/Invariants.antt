use Rattle.std.proofs.Common.{◌≡◌, take}
use Rattle.where_used.specs.Moves.{without_olds}
use Rattle.where_used.proofs.moves.drop_olds.Given as goal

-- what stood at the places so far is taken out
abbrev pub invariant-loop-count : goal.invariant-loop-count
invariant-loop-count l = l.used ≡ without_olds l.cell (take l.count l.places) l.fn.used
