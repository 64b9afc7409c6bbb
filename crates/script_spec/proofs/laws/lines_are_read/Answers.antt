use Rattle.script_spec.proofs.ReadLines as lemma
use Rattle.script_spec.proofs.laws.lines_are_read.Goals as goal

pub returns : goal.returns
returns c = lemma.lines_are_read
