use Rattle.std.proofs.Common.{refl}
use Rattle.flat_spec.specs.Occurrences.{occurrences}
use Rattle.flat_spec.specs.Representatives.{representative}
use Rattle.flat_spec.specs.Trees.{tree}
use Rattle.ask_spec.proofs.laws.counter_is_asked.Goals as goal

pub returns : goal.returns
unfolding representative occurrences tree
returns c = record { joined = refl; open_ = refl; driver = refl; load = refl }
