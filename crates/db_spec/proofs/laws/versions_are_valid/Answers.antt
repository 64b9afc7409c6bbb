use Rattle.db_spec.proofs.Promised as lemma
use Rattle.db_spec.proofs.laws.versions_are_valid.Goals as goal

pub returns : goal.returns
returns c = record { valid = lemma.valid_at; closed = lemma.closed_at }
