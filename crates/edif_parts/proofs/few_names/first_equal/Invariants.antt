use Rattle.std.proofs.Common.{◌≡◌, drop, nat_eq}
use Rattle.std.specs.Cmp.Lexicographic.{pointwise}
use Rattle.edif_parts.specs.FewNames.{first_from}
use Rattle.edif_parts.specs.Names.{ids}
use Rattle.edif_parts.proofs.few_names.first_equal.Given as goal

-- the names that are left decide
abbrev pub invariant-loop-i : goal.invariant-loop-i
invariant-loop-i l = first_from l.i (pointwise nat_eq l.name) (ids (drop l.i l.names)) ≡ first_from 0 (pointwise nat_eq l.name) (ids l.names)
