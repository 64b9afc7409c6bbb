use Rattle.edif_spelling_spec.proofs.TreeFaultLemmas.{tree_of_none, none_of_tree}
use Rattle.edif_spelling_spec.proofs.tree_laws.tree_or_fault.Goals as goal

pub returns-clause-tree : goal.returns-clause-tree
returns-clause-tree c ts end e = tree_of_none ts end e

pub returns-clause-none : goal.returns-clause-none
returns-clause-none c ts end t h = none_of_tree ts end t h
