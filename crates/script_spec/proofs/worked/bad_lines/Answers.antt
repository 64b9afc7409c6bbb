use Rattle.script_spec.proofs.BadLines as lemma
use Rattle.script_spec.proofs.worked.bad_lines.Goals as goal

pub returns : goal.returns
returns c = lemma.have_bad_lines
