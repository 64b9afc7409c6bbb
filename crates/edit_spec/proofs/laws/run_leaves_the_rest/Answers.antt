use Rattle.edit_spec.proofs.Overlaid as lemma
use Rattle.edit_spec.proofs.laws.run_leaves_the_rest.Goals as goal

pub returns : goal.returns
returns c = λ d ops o free. lemma.run_stays ops d o free
