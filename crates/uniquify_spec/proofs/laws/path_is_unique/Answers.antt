use Rattle.std.proofs.Common.{refl}
use Rattle.std.specs.Fmt.{digits}
use Rattle.edit_rules_spec.specs.Paths.{most_cells}
use Rattle.uniquify_spec.specs.Blocks.{trees_below}
use Rattle.uniquify_spec.proofs.laws.path_is_unique.Goals as goal

pub returns : goal.returns
unfolding digits most_cells trees_below
returns c = record { reply = refl; directory = refl; nowhere = refl; no_step = refl; through_leaf = refl; again = refl; no_top_on_path = refl; no_top = refl }
