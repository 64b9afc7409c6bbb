use Rattle.std.proofs.Common.{refl}
use Rattle.std.specs.Fmt.{digits}
use Rattle.script_spec.proofs.worked.operations_are_shown.Goals as goal

pub returns : goal.returns
unfolding digits
returns c = refl
