use Rattle.db_core.proofs.Staying as lemma
use Rattle.db_core.proofs.laws.pin_stays.Goals as goal

pub returns : goal.returns
returns c = lemma.pin_stays
