use Rattle.std.proofs.Common.{ℕ, List, ◌<◌, get_or}
use Rattle.netlist_schema.specs.Ident.{IsIdentifier}
use Rattle.edit_spec.proofs.typed.path_is_typed.Given as goal

-- the steps so far are identifiers
abbrev pub invariant-loop-step : goal.invariant-loop-step
invariant-loop-step l = (k : ℕ) (d : List ℕ) → k < l.step-index → IsIdentifier (get_or l.step-items k d)
