use Rattle.uniquify_spec.proofs.AlikeItems as lemma
use Rattle.uniquify_spec.proofs.laws.alike_flatten_alike.Goals as goal

pub returns : goal.returns
returns c = lemma.alike_flatten_alike
