use Rattle.netlist_order_spec.proofs.WholeOrder.{order_permutes, order_in_time, order_none_earlier}
use Rattle.netlist_order_spec.proofs.laws.order_is_whole.Goals as goal

pub returns-clause-whole : goal.returns-clause-whole
returns-clause-whole c d own l v e = order_permutes d own l v e

pub returns-clause-in_time : goal.returns-clause-in_time
returns-clause-in_time c own cells = order_in_time own cells

pub returns-clause-first : goal.returns-clause-first
returns-clause-first c own cells = order_none_earlier own cells
