use Rattle.db_spec.proofs.Histories as lemma
use Rattle.db_spec.proofs.laws.legal_by_parts.Goals as goal

pub returns : goal.returns
returns c = lemma.legal_by_parts
