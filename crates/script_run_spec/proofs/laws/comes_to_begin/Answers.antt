use Rattle.script_run_spec.proofs.Along as lemma
use Rattle.script_run_spec.proofs.laws.comes_to_begin.Goals as goal

pub returns : goal.returns
returns c = lemma.comes_to_begin
