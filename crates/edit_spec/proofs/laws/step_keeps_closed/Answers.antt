use Rattle.edit_spec.proofs.Framed as lemma
use Rattle.edit_spec.proofs.laws.step_keeps_closed.Goals as goal

pub returns : goal.returns
returns c = lemma.step_closed
