use Rattle.netlist_schema.proofs.Objects.{ordered_by_order}
use Rattle.conflict_check.proofs.stamps.Stamps.new.Goals as goal

pub invariant_of-result : goal.invariant_of-result
invariant_of-result c = ordered_by_order c.new.result c.new.ensures.ordered
