use Rattle.uniquify_spec.proofs.SplitLaws.{uniquify_keeps_flattening, unique_path_keeps_flattening}
use Rattle.edit_spec.proofs.laws.copies_keep_flattening.Goals as goal

pub returns : goal.returns
returns c = record { uniquify = uniquify_keeps_flattening; unique_path = unique_path_keeps_flattening }
