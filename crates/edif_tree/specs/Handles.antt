-- What stands at a node of a tree.
use Rattle.std.specs.Prelude.{◌≡◌, List, map}
use Rattle.edif_spelling_spec.specs.Tree.{Placed, Form', Word', Integer', String', trees}
use Rattle.edif_tree.specs.Nodes.{place_of}
use Rattle.edif_tree.specs.Here.{tree_at}
use Rattle.edif_tree.specs.Ranges.{ids_of}
use Rattle.edif_tree.specs.declared.node.Node.{Node}
use Rattle.edif_tree.specs.declared.node.Nodes.{Nodes}
use Rattle.edif_tree.specs.declared.node.Shape.{Shape}
use Rattle.edif_tree.specs.declared.node.Shape.TheVariants as shapes

-- the tree at a node
abbrev pub here : Node → Placed
here node = tree_at node.tree.now.rows node.id

-- the trees at nodes, in order
abbrev pub all : Nodes → List Placed
all nodes = map (tree_at nodes.tree.now.rows) (ids_of nodes.ids)

-- the shape is that of the tree: the nodes of a form's arguments in order, or a token
abbrev pub Shows : Shape → Placed → Type 0
Shows (shapes.Form nodes) t = t ≡ Form' (place_of t) (trees (all nodes))
Shows (shapes.Word name) t = t ≡ Word' (place_of t) name.now
Shows (shapes.Integer value) t = t ≡ Integer' (place_of t) value
Shows (shapes.String text) t = t ≡ String' (place_of t) text.now
