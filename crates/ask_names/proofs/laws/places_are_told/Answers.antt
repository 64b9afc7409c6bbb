use Rattle.ask_names.proofs.ToldLemmas.{insts_told, nets_told, ports_told}
use Rattle.ask_names.proofs.laws.places_are_told.Goals as goal

pub returns-clause-insts : goal.returns-clause-insts
returns-clause-insts c = insts_told

pub returns-clause-nets : goal.returns-clause-nets
returns-clause-nets c = nets_told

pub returns-clause-ports : goal.returns-clause-ports
returns-clause-ports c = ports_told
