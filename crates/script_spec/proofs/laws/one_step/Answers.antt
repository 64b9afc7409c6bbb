use Rattle.script_spec.proofs.OneStep as lemma
use Rattle.script_spec.proofs.laws.one_step.Goals as goal

pub returns : goal.returns
returns c = lemma.one_step
