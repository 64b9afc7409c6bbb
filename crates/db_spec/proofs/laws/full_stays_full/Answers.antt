use Rattle.db_spec.proofs.Promised as lemma
use Rattle.db_spec.proofs.laws.full_stays_full.Goals as goal

pub returns : goal.returns
returns c = lemma.full_stays_full
