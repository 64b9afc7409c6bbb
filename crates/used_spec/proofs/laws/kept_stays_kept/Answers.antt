use Rattle.used_spec.proofs.KeptAgain.{kept_again}
use Rattle.used_spec.proofs.laws.kept_stays_kept.Goals as goal

pub returns : goal.returns
returns c = kept_again
