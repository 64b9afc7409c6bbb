use Rattle.uniquify_spec.proofs.SplitValid.{uniquify_keeps_valid, unique_path_keeps_valid}
use Rattle.uniquify_spec.proofs.laws.both_keep_valid.Goals as goal

pub returns : goal.returns
returns c = record { uniquify = uniquify_keeps_valid; unique_path = unique_path_keeps_valid }
