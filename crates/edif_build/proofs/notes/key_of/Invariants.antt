use Rattle.std.proofs.Common.{◌≡◌, ◌++◌, ℕ, List, drop}
use Rattle.edif_build.specs.Notes.{flat}
use Rattle.edif_build.proofs.notes.key_of.Given as goal

abbrev pub invariant-loop-step : goal.invariant-loop-step
invariant-loop-step l = (q : List ℕ) → l.bytes.items ++ flat (drop l.step-index l.path) q ≡ flat l.path q
