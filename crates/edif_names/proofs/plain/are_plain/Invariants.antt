use Rattle.std.proofs.Common.{◌≡◌, ◌*◌, take, true}
use Rattle.std.specs.List.{list_all}
use Rattle.edif_spec.specs.Canonical.{is_plain}
use Rattle.edif_names.proofs.plain.are_plain.Given as goal

abbrev pub invariant-loop-block : goal.invariant-loop-block
invariant-loop-block l = list_all is_plain (take (l.block * 16) l.bytes) ≡ true
