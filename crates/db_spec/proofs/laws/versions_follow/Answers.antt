use Rattle.db_spec.proofs.Made as lemma
use Rattle.db_spec.proofs.laws.versions_follow.Goals as goal

pub returns : goal.returns
returns c = record { next = lemma.version_follows; commit = lemma.commit_makes }
