use Rattle.script_spec.proofs.Fronts as lemma
use Rattle.script_spec.proofs.laws.one_bad_line.Goals as goal

pub returns : goal.returns
returns c = lemma.one_bad_line
