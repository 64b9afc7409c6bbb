use Rattle.history_check_spec.proofs.One.{one_printed}
use Rattle.history_check_spec.proofs.laws.one_printed.Goals as goal

pub returns : goal.returns
returns c = one_printed
