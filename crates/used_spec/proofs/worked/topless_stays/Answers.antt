use Rattle.std.proofs.Common.{refl}
use Rattle.used_spec.proofs.worked.topless_stays.Goals as goal

pub returns : goal.returns
returns c = refl
