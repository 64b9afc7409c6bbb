use Rattle.erc_spec.proofs.ManyLemmas.{all_strong, all_strong_are}
use Rattle.erc_spec.proofs.ManyLemmas as many
use Rattle.erc_spec.proofs.laws.many_is_exact.Goals as goal

pub returns : goal.returns
returns c = record {
  told = λ d top x pins strong valid is there are. many.many_is_exact d top valid is x there pins strong are;
  listed = λ d top x valid is there. (all_strong d top valid is x there, all_strong_are d top valid is x there);
}
