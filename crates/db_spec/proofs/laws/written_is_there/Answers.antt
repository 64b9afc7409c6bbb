use Rattle.db_spec.proofs.Made as lemma
use Rattle.db_spec.proofs.laws.written_is_there.Goals as goal

pub returns : goal.returns
returns c = record { version = lemma.written_is_there; conflict = lemma.conflict_is_there }
