-- Lists of nodes that stand in one list, one behind the other.
use Rattle.std.specs.Prelude.{◌-◌, ℕ, List, [], ◌∷◌, ◌++◌}
use Rattle.edif_tree.specs.Ranges.{ids_from}
use Rattle.edif_tree.specs.declared.stored.NodeId.{NodeId}

-- the lists that end before these places, the first from this place on
abbrev pub lists_from : ℕ → List ℕ → List (List NodeId)
lists_from first [] = []
lists_from first (end ∷ ends) = ids_from first (end - first) ∷ lists_from end ends

-- the place before which the last one ends
abbrev pub last_end : ℕ → List ℕ → ℕ
last_end first [] = first
last_end first (end ∷ ends) = last_end end ends

-- lists, and where the last one ends
pub record EndedLists : Type 0 where
  pub lists : List (List NodeId)
  pub end : ℕ

-- with one more behind them
abbrev pub with_end : EndedLists → ℕ → EndedLists
with_end l end = record { lists = l.lists ++ ids_from l.end (end - l.end) ∷ []; end = end }
