use Rattle.edif_spec.proofs.Whole.{tree_meant}
use Rattle.edif_spec.proofs.meaning_laws.tree_means_its_design.Goals as goal

pub returns : goal.returns
returns c d v b = tree_meant d v b
