use Rattle.ungroup_spec.proofs.PinsLemmas as lemma
use Rattle.ungroup_spec.proofs.laws.pins_are_carried.Goals as goal

pub returns : goal.returns
returns c = lemma.pins_are_carried
