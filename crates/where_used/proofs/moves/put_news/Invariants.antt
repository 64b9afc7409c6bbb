use Rattle.std.proofs.Common.{◌≡◌, take}
use Rattle.where_used.specs.Moves.{with_news}
use Rattle.where_used.proofs.moves.put_news.Given as goal

-- what stands at the places so far is put in
abbrev pub invariant-loop-count : goal.invariant-loop-count
invariant-loop-count l = l.used ≡ with_news l.cell (take l.count l.places) l.fn.used
