use Rattle.std.proofs.Common.{refl}
use Rattle.flat_spec.specs.Occurrences.{occurrences}
use Rattle.flat_spec.specs.Representatives.{representative}
use Rattle.flat_spec.specs.Trees.{tree}
use Rattle.flat_spec.proofs.laws.pair_is_flattened.Goals as goal

pub returns : goal.returns
unfolding representative occurrences tree
returns c = record { items = refl; merged = refl }
