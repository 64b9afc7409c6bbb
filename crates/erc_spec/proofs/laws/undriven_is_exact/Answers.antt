use Rattle.erc_spec.proofs.ToldLemmas as told
use Rattle.erc_spec.proofs.laws.undriven_is_exact.Goals as goal

pub returns : goal.returns
returns c = λ d top x valid is there. told.undriven_is_exact d top valid is x there
