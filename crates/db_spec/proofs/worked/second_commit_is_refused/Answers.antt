use Rattle.db_spec.proofs.Refused as lemma
use Rattle.db_spec.proofs.worked.second_commit_is_refused.Goals as goal

pub returns : goal.returns
returns c = lemma.is_refused_commit
