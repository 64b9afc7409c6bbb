use Rattle.db_spec.proofs.Promised as lemma
use Rattle.db_spec.proofs.laws.one_history.Goals as goal

pub returns : goal.returns
returns c = lemma.one_history
