-- The occurrences of a cell and of all cells below it, as a finite tree.
use Rattle.std.specs.Prelude.{◌≡◌, ℕ, suc, zero, List, [], ◌∷◌, length}
use Rattle.std.specs.List.{flat_map}
use Rattle.netlist_schema.specs.Design.{Design}
use Rattle.netlist_schema.specs.Hierarchy.{insts_at, NoCellIsBelowItself}
use Rattle.netlist_schema.specs.Types.{CellId, Inst}

-- trees side by side: none, or one with a cell at its root and trees below it, and then the others
pub data Forest : Type 0 where
  Bare : Forest
  Grown : (cell : CellId) → (below : Forest) → (others : Forest) → Forest

-- a cell at the root, and below it trees side by side
pub record Tree : Type 0 where
  pub cell : CellId
  pub below : Forest

-- for each instance in order, a tree that unfolds its cell
abbrev pub UnfoldEach : Design → List Inst → Forest → Type 0
UnfoldEach d [] Bare = Unit {0}
UnfoldEach d (inst ∷ insts) (Grown cell below others) =
    (cell ≡ inst.of) × UnfoldEach d (insts_at d inst.of) below × UnfoldEach d insts others
UnfoldEach d [] (Grown cell below others) = ⊥
UnfoldEach d (inst ∷ insts) Bare = ⊥

-- the cell is at the root of the tree, and below it there is for each instance of the cell, in order, a tree that unfolds its cell
abbrev pub Unfolds : Design → CellId → Tree → Type 0
Unfolds d c t = (t.cell ≡ c) × UnfoldEach d (insts_at d c) t.below

-- a tree for each of these instances, down to the given depth
abbrev pub grown : Design → ℕ → List Inst → Forest
grown d depth [] = Bare
grown d zero (inst ∷ insts) = Bare
grown d (suc depth) (inst ∷ insts) = Grown inst.of (grown d depth (insts_at d inst.of)) (grown d (suc depth) insts)

-- The tree of the cell: as deep as there are cells, since no path goes through a cell twice.
-- Rest nothing on the depth: that this is the one tree of the cell is all that there is to know.
unfoldable pub tree : Design → CellId → Tree
tree d c = record { cell = c; below = grown d (length (flat_map (λ lib. lib.cells) d.libs)) (insts_at d c) }

-- in a design in which no cell is below itself each cell has a tree, this one, and no other
abbrev pub EachCellHasOneTree : Type 0
EachCellHasOneTree = (d : Design) (c : CellId) → NoCellIsBelowItself d
    → Unfolds d c (tree d c) × ((t : Tree) → Unfolds d c t → t ≡ tree d c)
