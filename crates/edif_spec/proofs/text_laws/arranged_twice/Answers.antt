use Rattle.edif_spec.proofs.ArrangeOrder.{arranged_stays}
use Rattle.edif_spec.proofs.text_laws.arranged_twice.Goals as goal

pub returns : goal.returns
returns c d v = arranged_stays d v
