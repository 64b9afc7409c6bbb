use Rattle.uniquify_spec.proofs.SplitWhich as lemma
use Rattle.uniquify_spec.proofs.laws.too_many_is_too_full.Goals as goal

pub returns : goal.returns
returns c = lemma.too_many_is_too_full
