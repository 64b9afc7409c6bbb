use Rattle.edif_spec.proofs.ArrangeOrder.{arranged_defined}
use Rattle.edif_spec.proofs.text_laws.arranged_in_order.Goals as goal

pub returns : goal.returns
returns c d v = arranged_defined d v
