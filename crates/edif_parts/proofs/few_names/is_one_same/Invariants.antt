use Rattle.std.proofs.Common.{◌≡◌, drop, false}
use Rattle.edif_spec.specs.Keyword.{same}
use Rattle.edif_parts.specs.FewNames.{one_passes}
use Rattle.edif_parts.specs.Names.{ids}
use Rattle.edif_parts.proofs.few_names.is_one_same.Given as goal

-- the names that are left decide
abbrev pub invariant-loop-entry : goal.invariant-loop-entry
invariant-loop-entry l = one_passes l.is_seen (same l.name) (ids (drop l.entry-index l.names)) ≡ one_passes false (same l.name) (ids l.names)
