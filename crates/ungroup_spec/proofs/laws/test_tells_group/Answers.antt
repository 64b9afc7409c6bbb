use Rattle.ungroup_spec.proofs.GroupLemmas.{grouped-true, grouped-from}
use Rattle.ungroup_spec.proofs.laws.test_tells_group.Goals as goal

pub returns : goal.returns
returns c = λ s x y x_is y_is. (grouped-true s x y, grouped-from s x y)
