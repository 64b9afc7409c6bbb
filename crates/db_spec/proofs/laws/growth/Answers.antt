use Rattle.db_spec.proofs.Promised as lemma
use Rattle.db_spec.proofs.laws.growth.Goals as goal

pub returns : goal.returns
returns c = lemma.growth
