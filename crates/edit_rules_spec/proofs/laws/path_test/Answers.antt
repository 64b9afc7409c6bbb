use Rattle.edit_rules_spec.proofs.Named as lemma
use Rattle.edit_rules_spec.proofs.laws.path_test.Goals as goal

pub returns : goal.returns
returns c = lemma.path_test
