use Rattle.edif_spelling_spec.proofs.SpelledTokens.{same_tree}
use Rattle.edif_spelling_spec.proofs.laws.one_spelled_tree.Goals as goal

pub returns : goal.returns
returns c bytes s t h k = same_tree bytes s t h k
