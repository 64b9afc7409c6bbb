use Rattle.edit_rules_spec.proofs.Values as lemma
use Rattle.edit_rules_spec.proofs.laws.agree_is_same_value.Goals as goal

pub returns : goal.returns
returns c = lemma.agree_is_same_value
