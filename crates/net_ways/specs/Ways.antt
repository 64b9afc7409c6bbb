-- The ways from the nets inside instances to those of the cell that holds them.
use Rattle.std.specs.Prelude.{◌≡◌, ◌<◌, ◌≤◌, ◌⊎◌, ◌↔◌, ℕ, List, [], Option, Some, None, option_and_then, length, slice_get, Bool, ◌&&◌, ◌||◌, nat_eq, nat_lt}
use Rattle.std.specs.List.{AllPairs, Contains}
use Rattle.std.specs.Option.{option_map, option_map_or}
use Rattle.std.specs.Ordering.{nat_cmp, ordering_then}
use Rattle.std.specs.declared.cmp.Ordering.{Ordering}
use Rattle.netlist_schema.specs.Design.{Design}
use Rattle.netlist_schema.specs.Hierarchy.{IsCell, insts_at}
use Rattle.netlist_schema.specs.Types.{CellId}
use Rattle.net_classes.specs.Facts.{CellFacts, Facts, facts_at, first_at}
use Rattle.net_classes.specs.declared.joints.Joint.{Joint}
use Rattle.net_ways.specs.declared.ways.Way.{Way}

-- what is kept of a cell: the bits of its instances that its nets join, and the first net inside of each net
abbrev pub joints_in : Facts → CellId → List Joint
joints_in facts c = option_map_or (λ (k : CellFacts). k.joints) (facts_at facts c) []

abbrev pub firsts_in : Facts → CellId → List ℕ
firsts_in facts c = option_map_or (λ (k : CellFacts). k.firsts) (facts_at facts c) []

-- the first net inside the cell of its instance that is connected with the joint's bit
abbrev pub lead_of : Design → Facts → CellId → Joint → Option ℕ
lead_of d facts c j =
    option_and_then (λ inst. first_at facts inst.of (record { port = j.port; bit = j.bit })) (slice_get (insts_at d c) j.inst)

-- the way by a joint of the cell
abbrev pub way_of : Design → Facts → CellId → Joint → Option Way
way_of d facts c j = option_map (λ first. record { inst = j.inst; first = first; net = j.net }) (lead_of d facts c j)

-- by instance, and within one by first net
abbrev pub WayUpto : Way → Way → Type 0
WayUpto a b = (a.inst < b.inst) ⊎ ((a.inst ≡ b.inst) × (a.first ≤ b.first))

-- the order of ways: by instance, first net and net
abbrev pub way_cmp : Way → Way → Ordering
way_cmp a b = ordering_then (nat_cmp a.inst b.inst) (ordering_then (nat_cmp a.first b.first) (nat_cmp a.net b.net))

-- the way is that of one of the joints
abbrev pub IsWayOf : Design → Facts → CellId → List Joint → Way → Type 0
IsWayOf d facts c joints w = (j : Joint) × Contains joints j × (way_of d facts c j ≡ Some w)

-- the ways of these joints, each
abbrev pub AreEach : Design → Facts → CellId → List Joint → List Way → Type 0
AreEach d facts c joints ways = (w : Way) → Contains ways w ↔ IsWayOf d facts c joints w

-- the ways into the cell, in order
pub record AreWaysInto (d : Design) (facts : Facts) (c : CellId) (ways : List Way) : Type 0 where
  pub each : AreEach d facts c (joints_in facts c) ways
  pub in_order : AllPairs WayUpto ways

-- those of the cell among the ways of all, by library and place
abbrev pub ways_in : List (List (List Way)) → CellId → List Way
ways_in cells c = option_map_or (λ ws. ws) (option_and_then (λ row. slice_get row c.slot) (slice_get cells c.lib.0)) []

-- so for each cell of the design
abbrev pub AreWays : Design → Facts → List (List (List Way)) → Type 0
AreWays d facts cells = (c : CellId) → IsCell d c → AreWaysInto d facts c (ways_in cells c)

-- those of the first so many cells of a library
pub record AreWaysOf (d : Design) (facts : Facts) (lib count : ℕ) (row : List (List Way)) : Type 0 where
  pub long : length row ≡ count
  pub each : (slot : ℕ) → slot < count → (ways : List Way) × (slice_get row slot ≡ Some ways) × AreWaysInto d facts (record { lib = record { 0 = lib }; slot = slot }) ways

-- the way comes before those of that instance and first net
abbrev pub way_before : ℕ → ℕ → Way → Bool
way_before inst first w = nat_lt w.inst inst || (nat_eq w.inst inst && nat_lt w.first first)

-- the way is that of the instance and first net
pub record IsFrom (inst first : ℕ) (w : Way) : Type 0 where
  pub inst_is : w.inst ≡ inst
  pub first_is : w.first ≡ first

-- a net outside that joins a bit of the instance which is connected inside with this first net; none where no net does
abbrev pub IsOuter : List Way → ℕ → ℕ → Option ℕ → Type 0
IsOuter ways inst first None = (net : ℕ) → Contains ways (record { inst = inst; first = first; net = net }) → ⊥
IsOuter ways inst first (Some net) = Contains ways (record { inst = inst; first = first; net = net })
