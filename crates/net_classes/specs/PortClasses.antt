-- Which own bits of a cell are connected in its tree, by their numbers among all its own bits.
use Rattle.std.specs.Prelude.{◌≡◌, ◌≤◌, ◌↔◌, ℕ, Option, Some, None, slice_get}
use Rattle.std.specs.List.{AllPairs, Contains}
use Rattle.netlist_schema.specs.Design.{Design}
use Rattle.netlist_schema.specs.Types.{CellId}
use Rattle.flat_spec.specs.Connection.{AreConnectedBits}
use Rattle.flat_spec.specs.HandedDown.{IsFirstInside}
use Rattle.flat_spec.specs.Paths.{Bit, own, on, at_root, IsNet, Joins}
use Rattle.flat_spec.specs.Pins.{own_bits}
use Rattle.flat_cells.specs.Below.{IsAtOrBelow}
use Rattle.net_classes.specs.Facts.{CellFacts, Facts, class_at, entry, facts_at, first_in}
use Rattle.net_classes.specs.Inside.{IsFirstAt}
use Rattle.net_classes.specs.Joints.{IsNotBehind}
use Rattle.net_classes.specs.declared.joints.Joint.{Joint}

-- the own bits with these two numbers are connected in the cell's tree
abbrev pub AreConnectedNumbers : Design → CellId → ℕ → ℕ → Type 0
AreConnectedNumbers d c j k =
    (a : Bit) × (b : Bit) × (slice_get (own_bits d c) j ≡ Some a) × (slice_get (own_bits d c) k ≡ Some b) × AreConnectedBits d c a b

-- the least own bit that is connected with this one in the cell's tree
pub record IsPortClass (d : Design) (c : CellId) (bit first : ℕ) : Type 0 where
  pub connected : AreConnectedNumbers d c bit first
  pub none_less : (k : ℕ) → AreConnectedNumbers d c bit k → first ≤ k

-- no net of the cell joins the own bit with this number
abbrev pub IsUnjoined : Design → CellId → ℕ → Type 0
IsUnjoined d c bit = (b : Bit) (n : ℕ) → slice_get (own_bits d c) bit ≡ Some b → Joins d c (at_root n) (own b) → ⊥

-- the answer for an own bit: its class, and none where no net of the cell joins the bit, or the cell is neither the top nor below it
abbrev pub IsClassAnswer : Design → CellId → CellId → ℕ → Option ℕ → Type 0
IsClassAnswer d top c bit None = IsAtOrBelow d top c → IsUnjoined d c bit
IsClassAnswer d top c bit (Some first) = IsAtOrBelow d top c × IsPortClass d c bit first

-- the net of a cell's contents that joins an own bit, none where none does
abbrev pub IsNetAnswer : Design → CellId → Bit → Option ℕ → Type 0
IsNetAnswer d c b None = (n : ℕ) → Joins d c (at_root n) (own b) → ⊥
IsNetAnswer d c b (Some n) = Joins d c (at_root n) (own b)

-- the net of the joint joins that bit of the instance
abbrev pub IsJoint : Design → CellId → Joint → Type 0
IsJoint d c j = Joins d c (at_root j.net) (on j.inst (record { port = j.port; bit = j.bit }))

-- what is kept of a cell is so in its tree
pub record AreFactsOf (d : Design) (c : CellId) (f : CellFacts) : Type 0 where
  pub nets : (bit : ℕ) (b : Bit) → slice_get (own_bits d c) bit ≡ Some b → IsNetAnswer d c b (entry f.nets bit)
  pub firsts : (n : ℕ) → IsNet d c (at_root n) → (first : ℕ) × (slice_get f.firsts n ≡ Some first) × IsFirstInside d c n first
  pub inside : (b : Bit) → Contains (own_bits d c) b → IsFirstAt d c b (first_in f b)
  pub joints : (j : Joint) → Contains f.joints j ↔ IsJoint d c j
  pub in_order : AllPairs IsNotBehind f.joints

-- each class that is kept is the least connected own bit, and of each cell at or below the top all is kept
pub record AreClasses (d : Design) (top : CellId) (facts : Facts) : Type 0 where
  pub classes : (c : CellId) (bit : ℕ) → IsClassAnswer d top c bit (class_at facts c bit)
  pub cells : (c : CellId) → IsAtOrBelow d top c → (f : CellFacts) × (facts_at facts c ≡ Some f) × AreFactsOf d c f
