use Rattle.uniquify_spec.proofs.SplitLaws as lemma
use Rattle.uniquify_spec.proofs.laws.both_grow.Goals as goal

pub returns : goal.returns
returns c = lemma.both_grow
