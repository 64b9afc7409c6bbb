use Rattle.ungroup_spec.proofs.EffectiveLemmas as lemma
use Rattle.ungroup_spec.proofs.laws.effective_stays.Goals as goal

pub returns : goal.returns
returns c = lemma.effective_stays
