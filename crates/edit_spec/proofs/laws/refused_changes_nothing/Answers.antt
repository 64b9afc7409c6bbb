use Rattle.edit_spec.proofs.Framed as lemma
use Rattle.edit_spec.proofs.laws.refused_changes_nothing.Goals as goal

pub returns : goal.returns
returns c = lemma.refused_changes_nothing
