use Rattle.db_spec.proofs.Staying as lemma
use Rattle.db_spec.proofs.laws.pin_stays_live.Goals as goal

pub returns : goal.returns
returns c = lemma.pin_stays_live
