use Rattle.std.proofs.Common.{◌≡◌, not, Some, take}
use Rattle.std.specs.Prelude.{filter}
use Rattle.edit_spec.specs.Cut.{is_end}
use Rattle.eco_ops.proofs.end_plans.other_ends.Given as goal

-- the other ends so far
abbrev pub invariant-loop-other : goal.invariant-loop-other
invariant-loop-other l = l.kept.items ≡ filter (λ e. not (is_end (Some l.end) e)) (take l.other-index l.other-items)
