use Rattle.used_spec.proofs.KeptNamed.{kept_flattens_alike}
use Rattle.used_spec.proofs.KeptValid.{kept_is_valid}
use Rattle.used_spec.proofs.laws.kept_stays.Goals as goal

pub returns : goal.returns
returns c = record { valid = kept_is_valid; flattening = kept_flattens_alike }
