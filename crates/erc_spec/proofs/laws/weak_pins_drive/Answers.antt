use Rattle.std.proofs.Common.{refl}
use Rattle.flat_spec.specs.Occurrences.{occurrences}
use Rattle.flat_spec.specs.Representatives.{representative}
use Rattle.flat_spec.specs.Trees.{tree}
use Rattle.erc_spec.proofs.laws.weak_pins_drive.Goals as goal

pub returns : goal.returns
unfolding representative occurrences tree
returns c = refl
