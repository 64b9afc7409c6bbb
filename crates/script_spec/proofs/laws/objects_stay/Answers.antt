use Rattle.script_spec.proofs.Settled as lemma
use Rattle.script_spec.proofs.laws.objects_stay.Goals as goal

pub returns-clause-there : goal.returns-clause-there
returns-clause-there c = lemma.conflicts_are_there

pub returns-clause-text : goal.returns-clause-text
returns-clause-text c = lemma.objects_stay
