use Rattle.edit_spec.proofs.Ungrouped as lemma
use Rattle.edit_spec.proofs.laws.ungroup_keeps.Goals as goal

pub returns : goal.returns
returns c = lemma.ungroup_keeps
