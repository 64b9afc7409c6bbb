-- Which nets of a contents are joined by way of its instances, told by the first net inside that is connected with each bit.
use Rattle.std.specs.Prelude.{◌≡◌, ℕ, [], ◌∷◌, Option, Some, None}
use Rattle.netlist_schema.specs.Design.{Design}
use Rattle.netlist_schema.specs.Types.{CellId}
use Rattle.flat_spec.specs.HandedDown.{IsFirstInside}
use Rattle.flat_spec.specs.Paths.{Bit, own, on, at_root, Joins, Reaches}

-- the first net of a cell's contents that is connected with its own bit in its tree, none where no net joins the bit
abbrev pub IsFirstAt : Design → CellId → Bit → Option ℕ → Type 0
IsFirstAt d c b None = (n : ℕ) → Joins d c (at_root n) (own b) → ⊥
IsFirstAt d c b (Some first) = (n : ℕ) × Joins d c (at_root n) (own b) × IsFirstInside d c n first

-- for each bit of an instance that a net joins, the first net inside is told, where there is one
pub record TellsFirsts (d : Design) (c : CellId) (inside : ℕ → Bit → Option ℕ) : Type 0 where
  pub there : (step : ℕ) (b : Bit) (first : ℕ) → inside step b ≡ Some first → (child : CellId) × Reaches d c (step ∷ []) child
  pub tells : (step : ℕ) (child : CellId) (b : Bit) (m : ℕ) → Reaches d c (step ∷ []) child → Joins d c (at_root m) (on step b)
      → IsFirstAt d child b (inside step b)

-- two nets of the contents join bits of one instance that have one first net inside
pub record AreJoinedInside (d : Design) (c : CellId) (inside : ℕ → Bit → Option ℕ) (m n : ℕ) : Type 0 where
  pub step : ℕ
  pub first : Bit
  pub second : Bit
  pub net : ℕ
  pub first_on : Joins d c (at_root m) (on step first)
  pub second_on : Joins d c (at_root n) (on step second)
  pub first_inside : inside step first ≡ Some net
  pub second_inside : inside step second ≡ Some net
