-- The trees that are left.
use Rattle.std.specs.Prelude.{List}
use Rattle.edif_spelling_spec.specs.Tree.{Placed}
use Rattle.edif_tree.specs.Handles.{all}
use Rattle.edif_tree.specs.declared.each.Each.{Each}

-- the trees at the nodes that are to come
abbrev pub left : Each → List Placed
left each = all each.nodes
