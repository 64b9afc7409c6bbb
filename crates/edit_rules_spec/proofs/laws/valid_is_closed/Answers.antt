use Rattle.edit_rules_spec.proofs.Closed as lemma
use Rattle.edit_rules_spec.proofs.laws.valid_is_closed.Goals as goal

pub returns : goal.returns
returns c = lemma.valid_is_closed
