use Rattle.ask_names.proofs.ToldLemmas.{paths_found, paths_told}
use Rattle.ask_names.proofs.laws.paths_are_told.Goals as goal

pub returns-clause-told : goal.returns-clause-told
returns-clause-told c = paths_told

pub returns-clause-found : goal.returns-clause-found
returns-clause-found c = paths_found
