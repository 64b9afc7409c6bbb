use Rattle.edit_spec.proofs.Example as lemma
use Rattle.edit_spec.proofs.laws.own_ends_example.Goals as goal

pub returns : goal.returns
returns c = lemma.own_ends
