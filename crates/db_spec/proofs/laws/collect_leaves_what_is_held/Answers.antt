use Rattle.db_spec.proofs.Sound as lemma
use Rattle.db_spec.proofs.laws.collect_leaves_what_is_held.Goals as goal

pub returns : goal.returns
returns c = lemma.collect_leaves
