use Rattle.script_spec.proofs.OneScript as lemma
use Rattle.script_spec.proofs.laws.one_script.Goals as goal

pub returns : goal.returns
returns c = lemma.one_script
