use Rattle.uniquify_spec.proofs.UniquifyLocal.{uniquify_is_local}
use Rattle.uniquify_spec.proofs.UniquePathLocal.{unique_path_is_local}
use Rattle.uniquify_spec.proofs.laws.both_are_local.Goals as goal

pub returns : goal.returns
returns c = record { uniquify = uniquify_is_local; unique_path = unique_path_is_local }
