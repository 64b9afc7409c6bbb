use Rattle.std.proofs.Common.{◌≡◌, ◌<◌, ◌++◌, ◌∷◌, List, ℕ}
use Rattle.std.specs.Prelude.{decimal}
use Rattle.report_parts.proofs.heads.by_some.Given as goal

abbrev pub invariant-loop-caller : goal.invariant-loop-caller
invariant-loop-caller l = (k : ℕ) (more : List ℕ) → k < l.caller → ¬ (l.text ≡ decimal k ++ 32 ∷ more)
