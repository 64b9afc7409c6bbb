-- Nodes that stand side by side.
use Rattle.std.specs.Prelude.{◌-◌, ℕ, zero, suc, List, [], ◌∷◌}
use Rattle.edif_tree.specs.declared.stored.NodeId.{NodeId}
use Rattle.edif_tree.specs.declared.stored.NodeRange.{NodeRange}

-- so many nodes, from this one on
abbrev pub ids_from : ℕ → ℕ → List NodeId
ids_from first zero = []
ids_from first (suc count) = record { 0 = first } ∷ ids_from (suc first) count

-- the nodes of a range
abbrev pub ids_of : NodeRange → List NodeId
ids_of r = ids_from r.first (r.end - r.first)
