use Rattle.script_run_spec.proofs.Endings as lemma
use Rattle.script_run_spec.proofs.laws.comes_to_break.Goals as goal

pub returns : goal.returns
returns c = lemma.comes_to_break
