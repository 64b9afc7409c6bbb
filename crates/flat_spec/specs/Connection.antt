-- Which nets of a cell's tree are connected.
use Rattle.std.specs.Prelude.{◌≡◌, ◌⊎◌, ◌↔◌, ℕ, [], ◌∷◌, ◌++◌}
use Rattle.netlist_schema.specs.Design.{Design}
use Rattle.netlist_schema.specs.Types.{CellId}
use Rattle.flat_spec.specs.Chains.{Chain}
use Rattle.flat_spec.specs.Paths.{Bit, own, on, at_root, Joins, Reaches}
use Rattle.flat_spec.specs.declared.item.NetAt.{NetAt}

-- the upper net joins a bit of an instance, and the lower one, of that instance's contents, joins the same bit as its cell's own
pub record Meets (d : Design) (root : CellId) (upper lower : NetAt) : Type 0 where
  pub step : ℕ
  pub joint : Bit
  pub below : lower.path ≡ upper.path ++ step ∷ []
  pub joins_on : Joins d root upper (on step joint)
  pub joins_own : Joins d root lower (own joint)

-- one of the two meets the other
abbrev pub AreNeighbours : Design → CellId → NetAt → NetAt → Type 0
AreNeighbours d root x y = Meets d root x y ⊎ Meets d root y x

-- a finite list of nets leads from one to the other, in which each two neighbours meet, in either direction
abbrev pub Connected : Design → CellId → NetAt → NetAt → Type 0
Connected d root = Chain (AreNeighbours d root)

-- a net of the root that joins the own bit is connected with the net
abbrev pub IsConnectedBit : Design → CellId → Bit → NetAt → Type 0
IsConnectedBit d root b x = (m : ℕ) × Joins d root (at_root m) (own b) × Connected d root (at_root m) x

-- nets of the root that join the two own bits are connected
abbrev pub AreConnectedBits : Design → CellId → Bit → Bit → Type 0
AreConnectedBits d root a b = (n : ℕ) × Joins d root (at_root n) (own b) × IsConnectedBit d root a (at_root n)

-- there is one instance of the cell on which the two nets join bits that are connected, as own bits of the instance's cell, in its tree
pub record AreLinked (d : Design) (c : CellId) (m n : ℕ) : Type 0 where
  pub step : ℕ
  pub child : CellId
  pub first : Bit
  pub second : Bit
  pub child_at : Reaches d c (step ∷ []) child
  pub first_on : Joins d c (at_root m) (on step first)
  pub second_on : Joins d c (at_root n) (on step second)
  pub connected : AreConnectedBits d child first second

-- two nets of a cell's contents are connected in its tree exactly where a finite list of nets of these contents leads from one
-- to the other, in which each two neighbours are linked by one instance
abbrev pub ConnectionIsLocal : Type 0
ConnectionIsLocal = (d : Design) (c : CellId) (m n : ℕ) → Connected d c (at_root m) (at_root n) ↔ Chain (AreLinked d c) m n
