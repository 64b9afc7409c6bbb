use Rattle.uniquify_spec.proofs.SplitAgain as lemma
use Rattle.uniquify_spec.proofs.laws.once_is_enough.Goals as goal

pub returns : goal.returns
returns c = lemma.once_is_enough
