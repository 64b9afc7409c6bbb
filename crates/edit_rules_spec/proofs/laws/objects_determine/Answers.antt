use Rattle.edit_rules_spec.proofs.Overlaid as lemma
use Rattle.edit_rules_spec.proofs.laws.objects_determine.Goals as goal

pub returns : goal.returns
returns c = lemma.design_by_objects
