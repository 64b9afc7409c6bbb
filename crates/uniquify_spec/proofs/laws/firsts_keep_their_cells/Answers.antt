use Rattle.uniquify_spec.proofs.SplitWhich as lemma
use Rattle.uniquify_spec.proofs.laws.firsts_keep_their_cells.Goals as goal

pub returns : goal.returns
returns c = record { blocks = lemma.blocks_are_occurrences; firsts = lemma.firsts_keep_their_cells }
