use Rattle.uniquify_spec.proofs.SplitLaws as lemma
use Rattle.uniquify_spec.proofs.laws.one_path_each.Goals as goal

pub returns : goal.returns
returns c = record { blocks = lemma.each_block_is_at_one_path; copies = lemma.each_copy_is_at_one_path }
