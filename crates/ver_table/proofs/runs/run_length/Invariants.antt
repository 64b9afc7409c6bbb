use Rattle.std.proofs.Common.{◌≡◌, ℕ, ◌<◌, ◌/◌}
use Rattle.ver_table.specs.Entries.{pairs_of, slot_at}
use Rattle.ver_table.proofs.runs.run_length.Given as goal

abbrev pub invariant-loop-at : goal.invariant-loop-at
invariant-loop-at g l = (k : ℕ) → k < l.at → slot_at (pairs_of l.changes) k / l.size ≡ l.number
