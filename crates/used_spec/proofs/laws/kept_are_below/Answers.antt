use Rattle.used_spec.proofs.KeptCells.{kept_if_below}
use Rattle.used_spec.proofs.laws.kept_are_below.Goals as goal

pub returns : goal.returns
returns c = kept_if_below
