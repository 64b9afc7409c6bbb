use Rattle.script_spec.proofs.Stays as lemma
use Rattle.script_spec.proofs.laws.session_stays.Goals as goal

pub returns : goal.returns
returns c = lemma.session_stays
