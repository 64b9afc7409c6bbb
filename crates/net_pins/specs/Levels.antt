-- Where a net leads from the contents of an occurrence.
use Rattle.std.specs.Prelude.{◌≡◌, ◌↔◌, ◌⊎◌, ℕ, List, [], ◌∷◌, ◌++◌, true, false, Option, Some, None, slice_get}
use Rattle.std.specs.List.{AllPairs, Contains, flat_map}
use Rattle.netlist_schema.specs.Design.{Design}
use Rattle.netlist_schema.specs.Types.{CellId}
use Rattle.flat_spec.specs.Paths.{Bit, IsNet, Reaches, at_path, at_root}
use Rattle.flat_spec.specs.Representatives.{representative}
use Rattle.flat_spec.specs.Types.{NetAt}
use Rattle.net_classes.specs.Facts.{Facts, first_at}
use Rattle.net_classes.specs.Joints.{IsNotBehind}
use Rattle.net_classes.specs.declared.joints.Joint.{Joint}
use Rattle.flat_items.specs.Stand.{top_of}
use Rattle.net_pins.specs.Order.{joint_before}
use Rattle.net_rows.specs.Rows.{Table, joints_of}
use Rattle.net_ways.specs.Ways.{firsts_in}
use Rattle.net_pins.specs.declared.levels.Level.{Level}

-- the joints of these first nets of the cell that lead to pins
abbrev pub leads_in : Table → CellId → List ℕ → List Joint
leads_in cells c firsts = flat_map (joints_of cells c) firsts

-- each of them is in order
abbrev pub AreInOrder : Table → CellId → Type 0
AreInOrder cells c = (f : ℕ) → AllPairs IsNotBehind (joints_of cells c f)

-- one of the joints that do not come before this bit of an instance, and none of these comes before it; none where all come before
abbrev pub IsNextOf : List Joint → ℕ → Bit → Option Joint → Type 0
IsNextOf joints inst b None = (j : Joint) → Contains joints j → joint_before inst b j ≡ true
IsNextOf joints inst b (Some next) = Contains joints next × (joint_before inst b next ≡ false)
    × ((j : Joint) → Contains joints j → joint_before inst b j ≡ false → joint_before next.inst (record { port = next.port; bit = next.bit }) j ≡ false)

-- a joint on the instance leads to that first net inside its cell
abbrev pub LeadsTo : Facts → CellId → ℕ → List Joint → ℕ → Type 0
LeadsTo facts of inst joints f =
    (j : Joint) × Contains joints j × (j.inst ≡ inst) × (first_at facts of (record { port = j.port; bit = j.bit }) ≡ Some f)

-- those to which the joints lead are added
abbrev pub AreAdded : Facts → CellId → ℕ → List Joint → List ℕ → List ℕ → Type 0
AreAdded facts of inst joints old new = (f : ℕ) → Contains new f ↔ (Contains old f ⊎ LeadsTo facts of inst joints f)

-- a number is added, where there is one
abbrev pub IsLeadAdded : Option ℕ → List ℕ → List ℕ → Type 0
IsLeadAdded first old new = (f : ℕ) → Contains new f ↔ (Contains old f ⊎ (first ≡ Some f))

-- the level of the occurrence at the path, for the net x: its first nets inside are those of nets whose first is x, and each of these that
-- leads to a pin is there
pub record IsLevel (d : Design) (facts : Facts) (cells : Table) (x : NetAt) (path : List ℕ) (l : Level) : Type 0 where
  pub reached : Reaches d (top_of d).cell path l.cell
  pub sound : (n f : ℕ) → Contains l.firsts.items f → IsNet d l.cell (at_root n) → slice_get (firsts_in facts l.cell) n ≡ Some f
      → representative d (top_of d).cell (at_path path n) ≡ x
  pub whole : (n f : ℕ) (j : Joint) → IsNet d l.cell (at_root n) → slice_get (firsts_in facts l.cell) n ≡ Some f
      → representative d (top_of d).cell (at_path path n) ≡ x → Contains (joints_of cells l.cell f) j → Contains l.firsts.items f

-- the levels of the occurrences along the steps, from that at the first path to the one above the last
abbrev pub AreLevels : Design → Facts → Table → NetAt → List ℕ → List ℕ → List Level → Type 0
AreLevels d facts cells x start [] [] = Unit {0}
AreLevels d facts cells x start (step ∷ steps) (l ∷ ls) = IsLevel d facts cells x start l × AreLevels d facts cells x (start ++ step ∷ []) steps ls
AreLevels d facts cells x start [] (l ∷ ls) = ⊥
AreLevels d facts cells x start (step ∷ steps) [] = ⊥
