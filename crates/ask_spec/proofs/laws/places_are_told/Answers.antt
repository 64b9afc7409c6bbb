use Rattle.ask_spec.proofs.AnswerLemmas.{nets_are_told, occurrences_are_told}
use Rattle.ask_spec.proofs.PlaceLemmas.{insts_are_told, properties_are_there}
use Rattle.ask_spec.proofs.laws.places_are_told.Goals as goal

pub returns-clause-occurrences : goal.returns-clause-occurrences
returns-clause-occurrences c = occurrences_are_told

pub returns-clause-properties : goal.returns-clause-properties
returns-clause-properties c = properties_are_there

pub returns-clause-insts : goal.returns-clause-insts
returns-clause-insts c = insts_are_told

pub returns-clause-nets : goal.returns-clause-nets
returns-clause-nets c = nets_are_told
