use Rattle.ungroup_spec.proofs.TreeLemmas as lemma
use Rattle.ungroup_spec.proofs.laws.occurrences_are_carried.Goals as goal

pub returns : goal.returns
returns c = lemma.occurrences_are_carried
