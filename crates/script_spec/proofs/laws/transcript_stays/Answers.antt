use Rattle.script_spec.proofs.Settled as lemma
use Rattle.script_spec.proofs.laws.transcript_stays.Goals as goal

pub returns : goal.returns
returns c = lemma.transcript_stays
