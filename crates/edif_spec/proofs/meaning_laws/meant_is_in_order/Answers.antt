use Rattle.edif_spec.proofs.Defined.{defined_before}
use Rattle.edif_spec.proofs.meaning_laws.meant_is_in_order.Goals as goal

pub returns : goal.returns
returns c t d h = defined_before t d h
