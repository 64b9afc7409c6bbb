use Rattle.script_spec.proofs.Fronts as lemma
use Rattle.script_spec.proofs.laws.script_or_bad.Goals as goal

pub returns : goal.returns
returns c = lemma.script_or_bad
