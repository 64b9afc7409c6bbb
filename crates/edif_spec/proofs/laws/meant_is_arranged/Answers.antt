use Rattle.edif_spec.proofs.ReadBack.{meant_stays}
use Rattle.edif_spec.proofs.laws.meant_is_arranged.Goals as goal

pub returns : goal.returns
returns c t d means = meant_stays t d means
