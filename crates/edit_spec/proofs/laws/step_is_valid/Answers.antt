use Rattle.edit_spec.proofs.Framed as lemma
use Rattle.edit_spec.proofs.laws.step_is_valid.Goals as goal

pub returns : goal.returns
returns c = lemma.step_is_valid
