use Rattle.db_spec.proofs.Inside as lemma
use Rattle.db_spec.proofs.worked.least_object_and_last_commit_are_named.Goals as goal

pub returns : goal.returns
returns c = lemma.inside_is_legal
