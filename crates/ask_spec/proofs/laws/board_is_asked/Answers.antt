use Rattle.std.proofs.Common.{refl}
use Rattle.flat_spec.specs.Occurrences.{occurrences}
use Rattle.flat_spec.specs.Representatives.{representative}
use Rattle.flat_spec.specs.Trees.{tree}
use Rattle.ask_spec.proofs.laws.board_is_asked.Goals as goal

pub returns : goal.returns
unfolding representative occurrences tree
returns c = record { lamp = refl; below = refl; net = refl; bridge = refl; same = refl; first = refl; inner = refl; none = refl }
