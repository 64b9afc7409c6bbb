use Rattle.ungroup_spec.proofs.FrameLemmas as lemma
use Rattle.ungroup_spec.proofs.laws.ungroup_is_local.Goals as goal

pub returns : goal.returns
returns c = lemma.ungroup_is_local
