use Rattle.std.proofs.Common.{refl}
use Rattle.std.specs.Fmt.{digits}
use Rattle.edit_rules_spec.specs.Paths.{most_cells}
use Rattle.flat_spec.specs.Occurrences.{occurrences}
use Rattle.flat_spec.specs.Representatives.{representative}
use Rattle.flat_spec.specs.Trees.{tree}
use Rattle.uniquify_spec.specs.Blocks.{trees_below}
use Rattle.uniquify_spec.proofs.laws.pair_is_unique.Goals as goal

pub returns : goal.returns
unfolding digits most_cells trees_below representative occurrences tree
returns c = record { reply = refl; directory = refl; items = refl; again = refl }
