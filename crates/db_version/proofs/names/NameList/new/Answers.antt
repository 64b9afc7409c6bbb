use Rattle.db_version.proofs.Lowering.{lowered_none}
use Rattle.db_version.proofs.names.NameList.new.Goals as goal

pub invariant_of-result : goal.invariant_of-result
invariant_of-result c = lowered_none _ _ c.new.ensures.empty c.new-2.ensures.empty
