use Rattle.edif_spec.proofs.ArrangeOrder.{defined_stays}
use Rattle.edif_spec.proofs.text_laws.in_order_is_arranged.Goals as goal

pub returns : goal.returns
returns c d v b = defined_stays d v b
