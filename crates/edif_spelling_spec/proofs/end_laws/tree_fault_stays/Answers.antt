use Rattle.edif_spelling_spec.proofs.FollowedTokens.{tree_fault_follows, tree_fault_mends}
use Rattle.edif_spelling_spec.proofs.end_laws.tree_fault_stays.Goals as goal

pub returns-clause-stays : goal.returns-clause-stays
returns-clause-stays c ts more end later fault f free = tree_fault_follows ts more end later fault f free

pub returns-clause-mends : goal.returns-clause-mends
returns-clause-mends c ts end later fault f u = tree_fault_mends ts end later fault f u
