use Rattle.ungroup_spec.proofs.ValidLemmas as lemma
use Rattle.ungroup_spec.proofs.laws.valid_stays.Goals as goal

pub returns : goal.returns
returns c = lemma.valid_stays
