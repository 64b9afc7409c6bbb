-- The tree at a node, as a function of the rows.
use Rattle.std.specs.Prelude.{ℕ, zero, suc, List, [], ◌∷◌, length, Option, None, Some, slice_get}
use Rattle.edif_spelling_spec.specs.Tree.{Placed, Trees, Form', Word', Integer', String', End, More}
use Rattle.edif_tree.specs.Nodes.{Seen, FormOf, WordOf, IntegerOf, StringOf, NodeRow}
use Rattle.edif_tree.specs.declared.stored.NodeId.{NodeId}

-- the trees at these places, where a function gives the tree at each
abbrev pub each : (ℕ → Placed) → List NodeId → Trees ℕ
each f [] = End
each f (id ∷ ids) = More (f id.0) (each f ids)

-- the tree of a node that is seen so
abbrev pub seen_tree : (ℕ → Placed) → ℕ → Seen → Placed
seen_tree f p (FormOf ids) = Form' p (each f ids)
seen_tree f p (WordOf name) = Word' p name
seen_tree f p (IntegerOf value) = Integer' p value
seen_tree f p (StringOf value) = String' p value

-- the tree of a row; where there is none, an empty form
abbrev pub row_tree : (ℕ → Placed) → Option NodeRow → Placed
row_tree f None = Form' 0 End
row_tree f (Some row) = seen_tree f row.place row.shape

-- the tree at a place, of so many levels at most
abbrev pub tree_within : ℕ → List NodeRow → ℕ → Placed
tree_within zero rows i = Form' 0 End
tree_within (suc n) rows i = row_tree (tree_within n rows) (slice_get rows i)

-- the tree at a node: where the rows are in order it stands there
unfoldable pub tree_at : List NodeRow → NodeId → Placed
tree_at rows id = tree_within (length rows) rows id.0
