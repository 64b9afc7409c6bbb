use Rattle.script_run_spec.proofs.Along as lemma
use Rattle.script_run_spec.proofs.laws.comes_further.Goals as goal

pub returns : goal.returns
returns c = lemma.comes_further
