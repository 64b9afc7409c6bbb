use Rattle.uniquify_spec.proofs.SplitLaws as lemma
use Rattle.uniquify_spec.proofs.laws.originals_stay.Goals as goal

pub returns : goal.returns
returns c = lemma.originals_stay
