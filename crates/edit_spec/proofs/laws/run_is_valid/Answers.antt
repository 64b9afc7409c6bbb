use Rattle.edit_spec.proofs.Values as lemma
use Rattle.edit_spec.proofs.laws.run_is_valid.Goals as goal

pub returns : goal.returns
returns c = lemma.run_keeps_valid
