use Rattle.db_spec.proofs.Histories as lemma
use Rattle.db_spec.proofs.laws.version_stays.Goals as goal

pub returns : goal.returns
returns c = record { design = lemma.version_stays; written = lemma.written_stays }
