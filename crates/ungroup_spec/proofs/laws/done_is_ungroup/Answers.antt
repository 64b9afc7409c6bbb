use Rattle.ungroup_spec.proofs.MapLemmas as lemma
use Rattle.ungroup_spec.proofs.laws.done_is_ungroup.Goals as goal

pub returns : goal.returns
returns c = lemma.done_is_ungroup
