use Rattle.edit_rules_spec.proofs.Levels as lemma
use Rattle.edit_rules_spec.proofs.laws.below_test.Goals as goal

pub returns : goal.returns
returns c = lemma.below_test
