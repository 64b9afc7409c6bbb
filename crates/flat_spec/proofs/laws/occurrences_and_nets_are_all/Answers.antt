use Rattle.flat_spec.proofs.OccurrenceLemmas.{occurrences_are_all, occurrences_go_down, nets_are_all}
use Rattle.flat_spec.proofs.laws.occurrences_and_nets_are_all.Goals as goal

pub returns : goal.returns
returns c = record { occurrences = occurrences_are_all; nets = nets_are_all; go_down = occurrences_go_down }
