use Rattle.std.proofs.Common.{refl}
use Rattle.std.specs.Fmt.{digits}
use Rattle.flat_spec.specs.Occurrences.{occurrences}
use Rattle.flat_spec.specs.Trees.{tree}
use Rattle.used_spec.proofs.worked.large_is_used.Goals as goal

pub returns : goal.returns
unfolding digits occurrences tree
returns c = record { of_buf = refl; of_inv = refl; of_b = refl; of_t = refl; of_a = refl; nowhere = refl; there = refl; left = refl; again = refl; text = refl }
