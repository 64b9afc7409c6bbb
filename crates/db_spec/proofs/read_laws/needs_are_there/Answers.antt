use Rattle.db_spec.proofs.Needed as lemma
use Rattle.db_spec.proofs.read_laws.needs_are_there.Goals as goal

pub returns : goal.returns
returns c = lemma.needs_are_there
