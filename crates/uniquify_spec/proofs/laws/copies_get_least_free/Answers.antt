use Rattle.uniquify_spec.proofs.CopyNames as lemma
use Rattle.uniquify_spec.proofs.laws.copies_get_least_free.Goals as goal

pub returns : goal.returns
returns c = lemma.copies_get_least_free
