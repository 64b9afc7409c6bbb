-- The names of the nets of an occurrence, handed down from above.
use Rattle.std.specs.Prelude.{◌≡◌, ◌≤◌, ◌<◌, ℕ, List, Option, Some, length, slice_get, option_and_then, take}
use Rattle.std.specs.List.{Contains}
use Rattle.netlist_schema.specs.Design.{Design}
use Rattle.netlist_schema.specs.Types.{CellId}
use Rattle.flat_spec.specs.HandedDown.{IsFirstInside}
use Rattle.flat_spec.specs.Paths.{at_path, nets_at}
use Rattle.flat_spec.specs.Representatives.{representative}
use Rattle.flat_spec.specs.Types.{NetAt}
use Rattle.net_classes.specs.Facts.{Facts, first_at}
use Rattle.net_classes.specs.declared.joints.Joint.{Joint}
use Rattle.net_names.specs.declared.names.NetName.{NetName}

-- the net of a name, where the path leads to the occurrence whose nets have these names
abbrev pub net_named : List ℕ → NetName → NetAt
net_named path name = at_path (take name.depth path) name.net

-- each first net of the occurrence's cell has as its name its representative in the root's tree
pub record AreNames (d : Design) (root : CellId) (path : List ℕ) (c : CellId) (names : List NetName) : Type 0 where
  pub long : length names ≡ length (nets_at d c)
  pub shallow : (n : ℕ) (name : NetName) → slice_get names n ≡ Some name → name.depth ≤ length path
  pub each : (n : ℕ) (name : NetName) → IsFirstInside d c n n → slice_get names n ≡ Some name → net_named path name ≡ representative d root (at_path path n)

-- the name of a net, by the first nets inside
abbrev pub name_in : List NetName → List ℕ → ℕ → Option NetName
name_in names firsts net = option_and_then (slice_get names) (slice_get firsts net)

-- the first net of the cell that is connected with the joint's bit
abbrev pub first_of : Facts → CellId → Joint → Option ℕ
first_of facts cell j = first_at facts cell (record { port = j.port; bit = j.bit })

-- so many nets, each by itself
pub record AreOwnNames (depth count : ℕ) (names : List NetName) : Type 0 where
  pub long : length names ≡ count
  pub each : (n : ℕ) → n < count → slice_get names n ≡ Some (record { depth = depth; net = n })

-- the name is given to the first net, where there are both
pub record IsHandedOne (first : Option ℕ) (name : Option NetName) (old new : List NetName) : Type 0 where
  pub long : length new ≡ length old
  pub hit : (n : ℕ) (given : NetName) → first ≡ Some n → name ≡ Some given → n < length old → slice_get new n ≡ Some given
  pub miss : (n : ℕ) → (first ≡ Some n → ⊥) → slice_get new n ≡ slice_get old n

-- the net has the name of a net outside that one of the joints joins with it, or its own where none does
pub data IsHanded (first : Joint → Option ℕ) (outside : ℕ → Option NetName) (depth : ℕ) (joints : List Joint) (n : ℕ) (name : NetName) : Type 0 where
  by_itself : name ≡ record { depth = depth; net = n } → ((j : Joint) → Contains joints j → first j ≡ Some n → ⊥) → IsHanded first outside depth joints n name
  through : (j : Joint) → Contains joints j → first j ≡ Some n → outside j.net ≡ Some name → IsHanded first outside depth joints n name

pub record AreHanded (first : Joint → Option ℕ) (outside : ℕ → Option NetName) (depth : ℕ) (joints : List Joint) (count : ℕ) (names : List NetName) : Type 0 where
  pub long : length names ≡ count
  pub each : (n : ℕ) → n < count → (name : NetName) × (slice_get names n ≡ Some name) × IsHanded first outside depth joints n name
