use Rattle.std.proofs.Common.{refl}
use Rattle.std.specs.Fmt.{digits}
use Rattle.flat_spec.specs.Occurrences.{occurrences}
use Rattle.flat_spec.specs.Trees.{tree}
use Rattle.used_spec.proofs.worked.small_is_used.Goals as goal

pub returns : goal.returns
unfolding digits occurrences tree
returns c = record { index = refl; left = refl; text = refl }
