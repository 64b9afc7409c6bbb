use Rattle.uniquify_spec.proofs.SplitLaws as lemma
use Rattle.uniquify_spec.proofs.laws.flattening_stays.Goals as goal

pub returns : goal.returns
returns c = record { uniquify = lemma.uniquify_keeps_flattening; unique_path = lemma.unique_path_keeps_flattening }
