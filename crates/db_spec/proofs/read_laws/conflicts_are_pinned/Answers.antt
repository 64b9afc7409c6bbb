use Rattle.db_spec.proofs.Pinned as lemma
use Rattle.db_spec.proofs.read_laws.conflicts_are_pinned.Goals as goal

pub returns : goal.returns
returns c = lemma.conflicts_are_pinned
