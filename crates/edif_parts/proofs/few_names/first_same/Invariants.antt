use Rattle.std.proofs.Common.{◌≡◌, drop}
use Rattle.edif_spec.specs.Keyword.{same}
use Rattle.edif_parts.specs.FewNames.{first_from}
use Rattle.edif_parts.specs.Names.{ids}
use Rattle.edif_parts.proofs.few_names.first_same.Given as goal

-- the names that are left decide
abbrev pub invariant-loop-i : goal.invariant-loop-i
invariant-loop-i l = first_from l.i (same l.name) (ids (drop l.i l.names)) ≡ first_from 0 (same l.name) (ids l.names)
