use Rattle.std.proofs.Common.{◌≡◌, false, take}
use Rattle.std.specs.List.{list_any}
use Rattle.edit_rules_spec.specs.Find.{is_same}
use Rattle.db_version.proofs.Parts.{all_of}
use Rattle.db_version.proofs.directory.has_same.Given as goal

abbrev pub invariant-loop-part : goal.invariant-loop-part
invariant-loop-part l = list_any (λ other. is_same other l.name) (all_of (take l.part-index l.parts)) ≡ false
