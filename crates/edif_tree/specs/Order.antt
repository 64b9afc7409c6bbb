-- The arguments of a form stand before it in the list of nodes.
use Rattle.std.specs.Prelude.{◌&&◌, Bool, true, ℕ, suc, nat_lt, List, [], ◌∷◌, length}
use Rattle.std.specs.List.{list_all}
use Rattle.edif_tree.specs.Nodes.{Seen, FormOf, NodeRow}
use Rattle.edif_tree.specs.declared.stored.NodeId.{NodeId}

-- each argument stands before this place
abbrev pub in_order_at : ℕ → Seen → Bool
in_order_at n (FormOf ids) = list_all (λ (id : NodeId). nat_lt id.0 n) ids
in_order_at n _ = true

-- so it is with each row, the first of which has this place
abbrev pub in_order_from : ℕ → List NodeRow → Bool
in_order_from n [] = true
in_order_from n (row ∷ rows) = in_order_at n row.shape && in_order_from (suc n) rows

-- a node of rows that are in order
abbrev pub is_node : List NodeRow → NodeId → Bool
is_node rows id = in_order_from 0 rows && nat_lt id.0 (length rows)

-- nodes of rows that are in order
abbrev pub are_nodes : List NodeRow → List NodeId → Bool
are_nodes rows ids = list_all (is_node rows) ids
