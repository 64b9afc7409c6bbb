use Rattle.std.proofs.Common.{◌≡◌, ◌<◌, ℕ, get_or}
use Rattle.eco_reads.proofs.walk.has_cell.Given as goal

-- none of the cells so far is the one
abbrev pub invariant-loop-id : goal.invariant-loop-id
invariant-loop-id l = (k : ℕ) → k < l.id-index → get_or l.id-items k l.target ≡ l.target → ⊥
