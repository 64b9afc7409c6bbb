use Rattle.edit_spec.proofs.Overlaid as lemma
use Rattle.edit_spec.proofs.laws.written_is_there.Goals as goal

pub returns : goal.returns
returns c = record { step = lemma.step_there; run = λ d ops o is. lemma.run_there ops d o is }
