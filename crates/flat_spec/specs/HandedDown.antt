-- How the representatives of an occurrence's nets follow from those of its parent's nets.
use Rattle.std.specs.Prelude.{◌≡◌, ◌<◌, ℕ, List, [], ◌∷◌, ◌++◌}
use Rattle.netlist_schema.specs.Design.{Design}
use Rattle.netlist_schema.specs.Hierarchy.{NoCellIsBelowItself}
use Rattle.netlist_schema.specs.Types.{CellId}
use Rattle.flat_spec.specs.Connection.{Connected, IsConnectedBit}
use Rattle.flat_spec.specs.Paths.{Bit, on, at_path, at_root, Joins, Reaches, IsNet}
use Rattle.flat_spec.specs.Representatives.{representative}
use Rattle.flat_spec.specs.declared.item.NetAt.{NetAt}

-- an occurrence below the root: the path of its parent, the instance there, and its cell
pub record Inner : Type 0 where
  pub parent : List ℕ
  pub step : ℕ
  pub cell : CellId

-- it stands in the root's tree
abbrev pub IsInner : Design → CellId → Inner → Type 0
IsInner d root o = Reaches d root (o.parent ++ o.step ∷ []) o.cell

-- net n of the inner occurrence
abbrev pub inner_net : Inner → ℕ → NetAt
inner_net o n = at_path (o.parent ++ o.step ∷ []) n

-- net m of its parent
abbrev pub outer_net : Inner → ℕ → NetAt
outer_net o m = at_path o.parent m

-- in the tree of the inner occurrence's cell an own bit is connected with net n, and net m of the parent joins that bit on the instance
pub record IsHandedDown (d : Design) (root : CellId) (o : Inner) (m n : ℕ) : Type 0 where
  pub joint : Bit
  pub inside : IsConnectedBit d o.cell joint (at_root n)
  pub outside : Joins d root (outer_net o m) (on o.step joint)

-- no net of the parent is handed down to net n
abbrev pub IsUntouched : Design → CellId → Inner → ℕ → Type 0
IsUntouched d root o n = (m : ℕ) → IsHandedDown d root o m n → ⊥

-- the first net of the cell's contents that is connected with net n in the cell's tree
pub record IsFirstInside (d : Design) (c : CellId) (n first : ℕ) : Type 0 where
  pub connected : Connected d c (at_root n) (at_root first)
  pub least : (k : ℕ) → Connected d c (at_root n) (at_root k) → k < first → ⊥

-- each net of a cell's contents has such a first, which is its representative in the cell's tree
abbrev pub EachNetHasAFirstInside : Type 0
EachNetHasAFirstInside = (d : Design) (c : CellId) (n : ℕ) → NoCellIsBelowItself d → IsNet d c (at_root n)
    → (first : ℕ) × IsFirstInside d c n first × (representative d c (at_root n) ≡ at_root first)

-- a net has the representative of each net of the parent that is handed down to it
abbrev pub RepresentativesAreHandedDown : Type 0
RepresentativesAreHandedDown = (d : Design) (root : CellId) (o : Inner) (m n : ℕ)
    → NoCellIsBelowItself d → IsInner d root o → IsHandedDown d root o m n
    → representative d root (inner_net o n) ≡ representative d root (outer_net o m)

-- where none is, its representative is the first net of the same contents that is connected with it in the tree of the cell
abbrev pub OrAreTheFirstInside : Type 0
OrAreTheFirstInside = (d : Design) (root : CellId) (o : Inner) (n first : ℕ)
    → NoCellIsBelowItself d → IsInner d root o → IsNet d o.cell (at_root n) → IsUntouched d root o n → IsFirstInside d o.cell n first
    → representative d root (inner_net o n) ≡ inner_net o first
