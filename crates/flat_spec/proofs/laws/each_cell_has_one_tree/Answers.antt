use Rattle.flat_spec.specs.Trees.{tree}
use Rattle.flat_spec.proofs.TreeLemmas.{tree-unfolds, Unfolds-same}
use Rattle.flat_spec.proofs.laws.each_cell_has_one_tree.Goals as goal

pub returns : goal.returns
returns c = λ d cell acyclic.
    (tree-unfolds d acyclic cell, λ t u. Unfolds-same d cell t (tree d cell) u (tree-unfolds d acyclic cell))
