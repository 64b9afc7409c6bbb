use Rattle.std.proofs.Common.{◌≡◌, None, length, take}
use Rattle.edit_rules_spec.specs.Find.{place_of}
use Rattle.db_version.proofs.Parts.{all_of}
use Rattle.db_version.proofs.directory.place.Given as goal

abbrev pub invariant-loop-part : goal.invariant-loop-part
invariant-loop-part l = record {
  counted : l.before ≡ length (all_of (take l.part-index l.parts));
  none : place_of l.name (all_of (take l.part-index l.parts)) ≡ None;
}
