-- The occurrences of a tree in path order, and their nets.
use Rattle.std.specs.Prelude.{◌≡◌, ◌↔◌, ℕ, suc, List, [], ◌∷◌, ◌++◌, length, map}
use Rattle.std.specs.List.{AllPairs, Contains, enumerate_from, flat_map, range_with_len}
use Rattle.netlist_schema.specs.Design.{Design}
use Rattle.netlist_schema.specs.Hierarchy.{insts_at, NoCellIsBelowItself}
use Rattle.netlist_schema.specs.Types.{CellId}
use Rattle.flat_spec.specs.PathOrder.{PathBefore, NetBefore}
use Rattle.flat_spec.specs.Paths.{nets_at, at_path, Reaches, IsNet}
use Rattle.flat_spec.specs.Trees.{Forest, Bare, Grown, Tree, tree}
use Rattle.flat_spec.specs.declared.item.NetAt.{NetAt}

-- a path, and the cell to which it leads
pub record Occurrence : Type 0 where
  pub path : List ℕ
  pub cell : CellId

-- the same occurrence, where its tree stands at instance i
abbrev pub under : ℕ → Occurrence → Occurrence
under i o = record { path = i ∷ o.path; cell = o.cell }

-- of trees side by side, the first of which stands at instance i: each root, then what is below it, then the other trees
abbrev pub occurrences_from : ℕ → Forest → List Occurrence
occurrences_from i Bare = []
occurrences_from i (Grown cell below others) =
    map (under i) (record { path = []; cell = cell } ∷ occurrences_from 0 below) ++ occurrences_from (suc i) others

-- the occurrences of a tree: its root, and then what is below it
abbrev pub occurrences_in : Tree → List Occurrence
occurrences_in t = record { path = []; cell = t.cell } ∷ occurrences_from 0 t.below

-- the occurrences of a cell's tree, in path order
unfoldable pub occurrences : Design → CellId → List Occurrence
occurrences d root = occurrences_in (tree d root)

-- the nets of an occurrence, in the order of its contents
abbrev pub own_nets : Design → Occurrence → List NetAt
own_nets d o = map (at_path o.path) (range_with_len 0 (length (nets_at d o.cell)))

-- the nets of a cell's tree: by path order, and within an occurrence in the order of its contents
abbrev pub nets : Design → CellId → List NetAt
nets d root = flat_map (own_nets d) (occurrences d root)

-- the listed occurrences are the paths from the root with the cells that they reach, in path order, each once
pub record AreOccurrences (d : Design) (root : CellId) (os : List Occurrence) : Type 0 where
  pub each : (o : Occurrence) → Contains os o ↔ Reaches d root o.path o.cell
  pub in_order : AllPairs (λ o q. PathBefore o.path q.path) os

-- the listed nets are those below the root, in order, each once
pub record AreNets (d : Design) (root : CellId) (xs : List NetAt) : Type 0 where
  pub each : (x : NetAt) → Contains xs x ↔ IsNet d root x
  pub in_order : AllPairs NetBefore xs

-- the list of occurrences has each path below the cell, in order
abbrev pub OccurrencesAreAll : Type 0
OccurrencesAreAll = (d : Design) (root : CellId) → NoCellIsBelowItself d → AreOccurrences d root (occurrences d root)

-- the list of nets has each net below the cell, in order
abbrev pub NetsAreAll : Type 0
NetsAreAll = (d : Design) (root : CellId) → NoCellIsBelowItself d → AreNets d root (nets d root)

-- the occurrences of a cell are its own, and then, for each of its instances in order, those of the instance's cell under that step
abbrev pub OccurrencesGoDown : Type 0
OccurrencesGoDown = (d : Design) (root : CellId) → NoCellIsBelowItself d
    → occurrences d root
    ≡ record { path = []; cell = root } ∷ flat_map (λ p. map (under p.0) (occurrences d p.1.of)) (enumerate_from 0 (insts_at d root))
