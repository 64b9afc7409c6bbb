use Rattle.std.proofs.Common.{refl}
use Rattle.flat_spec.specs.Occurrences.{occurrences}
use Rattle.flat_spec.specs.Representatives.{representative}
use Rattle.flat_spec.specs.Trees.{tree}
use Rattle.ungroup_spec.specs.Groups.{is_grouped}
use Rattle.ungroup_spec.proofs.laws.pair_is_ungrouped.Goals as goal

pub returns : goal.returns
unfolding representative occurrences tree is_grouped
returns c = (refl, refl, refl, refl)
