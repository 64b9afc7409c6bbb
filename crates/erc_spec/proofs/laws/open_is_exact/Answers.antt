use Rattle.erc_spec.proofs.ToldLemmas as told
use Rattle.erc_spec.proofs.laws.open_is_exact.Goals as goal

pub returns : goal.returns
returns c = λ d top path b valid is. told.open_is_exact d top valid is path b
