use Rattle.edit_spec.proofs.Example as lemma
use Rattle.edit_spec.proofs.laws.middle_example.Goals as goal

pub returns : goal.returns
returns c = lemma.middle
