use Rattle.std.proofs.Common.{◌≡◌, ◌++◌, take}
use Rattle.db_version.proofs.Parts.{all_of}
use Rattle.db_version.proofs.directory.add_parts.Given as goal

abbrev pub invariant-loop-part : goal.invariant-loop-part
invariant-loop-part l = l.names ≡ l.initial.names ++ all_of (take l.part-index l.parts)
