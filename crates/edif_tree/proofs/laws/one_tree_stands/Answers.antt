use Rattle.edif_tree.proofs.OneTree.{one_at}
use Rattle.edif_tree.proofs.laws.one_tree_stands.Goals as goal

pub returns : goal.returns
returns c rows id s t h k = one_at s t rows id h k
