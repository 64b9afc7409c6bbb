use Rattle.std.proofs.Common.{refl}
use Rattle.std.specs.Fmt.{digits}
use Rattle.ungroup_spec.specs.Groups.{is_grouped}
use Rattle.ungroup_spec.proofs.laws.feedthrough_is_ungrouped.Goals as goal

pub returns : goal.returns
unfolding is_grouped digits
returns c = (refl, refl)
