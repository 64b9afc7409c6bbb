-- What is known of the cells of a design when some of them are told.
use Rattle.std.specs.Prelude.{◌≡◌, ℕ, List, Option, Some, None, IsSome}
use Rattle.std.specs.List.{Contains}
use Rattle.netlist_schema.specs.Design.{Design}
use Rattle.netlist_schema.specs.Hierarchy.{HasInst, IsCell}
use Rattle.netlist_schema.specs.Types.{CellId, Inst}
use Rattle.net_classes.specs.Facts.{CellFacts, Facts, class_at, entry, facts_at}
use Rattle.net_classes.specs.PortClasses.{AreFactsOf, IsPortClass, IsUnjoined}

-- the answer for an own bit of a cell: its class, and none where no net of the cell joins the bit
abbrev pub IsClassIn : Design → CellId → ℕ → Option ℕ → Type 0
IsClassIn d c bit None = IsUnjoined d c bit
IsClassIn d c bit (Some first) = IsPortClass d c bit first

-- what is kept of a cell is so in its tree, its port classes too
pub record AreTold (d : Design) (c : CellId) (f : CellFacts) : Type 0 where
  pub facts : AreFactsOf d c f
  pub classes : (bit : ℕ) → IsClassIn d c bit (entry f.least bit)

-- these cells are told, and of no other a class is kept
pub record AreKnown (d : Design) (done : List CellId) (facts : Facts) : Type 0 where
  pub room : (c : CellId) → IsCell d c → IsSome (facts_at facts c)
  pub told : (c : CellId) → Contains done c → (f : CellFacts) × (facts_at facts c ≡ Some f) × AreTold d c f
  pub others : (c : CellId) (bit : ℕ) → (Contains done c → ⊥) → class_at facts c bit ≡ None

-- each instance of the cell is of one of these
abbrev pub HasChildrenIn : Design → CellId → List CellId → Type 0
HasChildrenIn d c done = (inst : Inst) → HasInst d c inst → Contains done inst.of

-- the facts of a cell are set, where there is room for them
pub record AreSetAt (old : Facts) (c : CellId) (f : CellFacts) (new : Facts) : Type 0 where
  pub room : (other : CellId) → IsSome (facts_at old other) → IsSome (facts_at new other)
  pub here : IsSome (facts_at old c) → facts_at new c ≡ Some f
  pub others : (other : CellId) → (other ≡ c → ⊥) → facts_at new other ≡ facts_at old other
