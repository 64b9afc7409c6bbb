use Rattle.edit_spec.proofs.ShownWhole as lemma
use Rattle.edit_spec.proofs.laws.inst_is_shown.Goals as goal

pub returns : goal.returns
returns c = lemma.inst_is_shown
