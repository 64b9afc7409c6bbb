use Rattle.script_spec.proofs.ReadAlike as lemma
use Rattle.script_spec.proofs.worked.read_alike.Goals as goal

pub returns : goal.returns
returns c = lemma.read_alike
