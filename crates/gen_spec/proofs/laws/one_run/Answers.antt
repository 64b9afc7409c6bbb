use Rattle.gen_spec.proofs.One as lemma
use Rattle.gen_spec.proofs.laws.one_run.Goals as goal

pub returns : goal.returns
returns c = lemma.one_run
