-- Which tree stands at a node of a list of nodes.
use Rattle.std.specs.Prelude.{◌≡◌, ◌<◌, FitsSigned, ℕ, ℤ, pos, List, [], ◌∷◌, ◌++◌, Some, drop, get_or, length, map, slice_get, take}
use Rattle.std.specs.Int.{w64}
use Rattle.edif_spelling_spec.specs.Tree.{Placed, Trees, Form', Word', Integer', String', End, More}
use Rattle.edif_tree.specs.Ranges.{ids_from, ids_of}
use Rattle.edif_tree.specs.declared.stored.NodeId.{NodeId}
use Rattle.edif_tree.specs.declared.stored.StoredNode.{StoredNode}
use Rattle.edif_tree.specs.declared.stored.StoredKind.{StoredKind}
use Rattle.edif_tree.specs.declared.stored.StoredKind.TheVariants as kinds
use Rattle.edif_tree.specs.declared.stored.StoredShape.{StoredShape}
use Rattle.edif_tree.specs.declared.stored.StoredShape.TheVariants as shapes

-- a form by the nodes of its arguments, or a token
pub data Seen : Type 0 where
  FormOf : (arguments : List NodeId) → Seen
  WordOf : (name : List ℕ) → Seen
  IntegerOf : (value : ℤ) → Seen
  StringOf : (value : List ℕ) → Seen

-- what is seen of a node: the number of bytes before its first token, and its shape
pub record NodeRow : Type 0 where
  pub place : ℕ
  pub shape : Seen

-- the nodes of a tree, and the node at its top
pub record Table : Type 0 where
  pub rows : List NodeRow
  pub root : NodeId

-- the nodes of a tree that is being made, and those that no closed form holds, the last of which come next
pub record Made : Type 0 where
  pub rows : List NodeRow
  pub loose : List NodeRow

-- the lists beside the nodes: the arguments of each form, and the words, integers and strings
pub record Stores : Type 0 where
  pub arguments : List (List NodeId)
  pub words : List (List ℕ)
  pub integers : List ℤ
  pub strings : List (List ℕ)

-- the shape of a node, where these lists stand beside it
abbrev pub shape_of : Stores → StoredKind → Seen
shape_of lists (kinds.Form at) = FormOf (get_or lists.arguments at [])
shape_of lists (kinds.Word at) = WordOf (get_or lists.words at [])
shape_of lists (kinds.Integer at) = IntegerOf (get_or lists.integers at (pos 0))
shape_of lists (kinds.String at) = StringOf (get_or lists.strings at [])

abbrev pub row_of : Stores → StoredNode → NodeRow
row_of lists node = record { place = node.place; shape = shape_of lists node.kind }

-- what a node names lies within these lists, and an integer within 64 bits
abbrev pub IsWithin : Stores → StoredKind → Type 0
IsWithin lists (kinds.Form at) = at < length lists.arguments
IsWithin lists (kinds.Word at) = at < length lists.words
IsWithin lists (kinds.Integer at) = (at < length lists.integers) × FitsSigned w64 (get_or lists.integers at (pos 0))
IsWithin lists (kinds.String at) = at < length lists.strings

abbrev pub AreWithin : Stores → List StoredNode → Type 0
AreWithin lists [] = Unit {0}
AreWithin lists (node ∷ nodes) = IsWithin lists node.kind × AreWithin lists nodes

-- The same of nodes that stand in two lists, those of forms and loose ones; and where the last form's arguments end.
pub record AreMade (lists : Stores) (end : ℕ) (nodes loose : List StoredNode) : Type 0 where
  pub held : AreWithin lists nodes
  pub free : AreWithin lists loose
  pub ended : end ≡ length nodes

abbrev pub made_of : Stores → List StoredNode → List StoredNode → Made
made_of lists nodes loose = record { rows = map (row_of lists) nodes; loose = map (row_of lists) loose }

-- with one more loose node; and with a form closed, whose arguments are the loose nodes from a place on
abbrev pub with_loose : Made → NodeRow → Made
with_loose m row = record { rows = m.rows; loose = m.loose ++ row ∷ [] }

abbrev pub with_form : Made → ℕ → ℕ → Made
with_form m place start = record {
  rows = m.rows ++ drop start m.loose;
  loose = take start m.loose ++ record { place = place; shape = FormOf (ids_from (length m.rows) (length (drop start m.loose))) } ∷ [];
}

-- the tree stands at the node: its place, its kind, and its arguments at the nodes that the node names
abbrev mutual
  pub IsAt : List NodeRow → NodeId → Placed → Type 0
  IsAt rows id (Form' place arguments) = (ids : List NodeId) × (slice_get rows id.0 ≡ Some (record { place = place; shape = FormOf ids })) × AreAt rows ids arguments
  IsAt rows id (Word' place name) = slice_get rows id.0 ≡ Some (record { place = place; shape = WordOf name })
  IsAt rows id (Integer' place value) = slice_get rows id.0 ≡ Some (record { place = place; shape = IntegerOf value })
  IsAt rows id (String' place value) = slice_get rows id.0 ≡ Some (record { place = place; shape = StringOf value })

  pub AreAt : List NodeRow → List NodeId → Trees ℕ → Type 0
  AreAt rows [] End = Unit {0}
  AreAt rows [] (More t ts) = ⊥
  AreAt rows (id ∷ ids) End = ⊥
  AreAt rows (id ∷ ids) (More t ts) = IsAt rows id t × AreAt rows ids ts

-- the place of the first token of a tree
abbrev pub place_of : Placed → ℕ
place_of (Form' place arguments) = place
place_of (Word' place name) = place
place_of (Integer' place value) = place
place_of (String' place value) = place

-- what is seen where this is lent
abbrev pub seen : StoredShape → Seen
seen (shapes.Form range) = FormOf (ids_of range)
seen (shapes.Word name) = WordOf name.now
seen (shapes.Integer value) = IntegerOf value
seen (shapes.String text) = StringOf text.now
