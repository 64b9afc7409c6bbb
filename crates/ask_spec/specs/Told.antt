-- What answers say of the flattening, and of the hierarchy.
use Rattle.std.specs.Prelude.{◌≡◌, ◌↔◌, ◌⊎◌, ◌<◌, ℕ, List, [], ◌∷◌, ◌++◌, Option, Some, is_some, length, slice_get, true}
use Rattle.std.specs.List.{Contains}
use Rattle.netlist_schema.specs.Design.{Design}
use Rattle.netlist_schema.specs.Types.{CellId, Inst, Property, TopHead}
use Rattle.netlist_schema.specs.Valid.{IsValid}
use Rattle.flat_spec.specs.Connection.{Connected}
use Rattle.flat_spec.specs.Flattening.{flattening}
use Rattle.flat_spec.specs.Paths.{IsNet, at_path}
use Rattle.flat_spec.specs.Types.{Item, NetAt}
use Rattle.flat_spec.specs.declared.item.Item.TheVariants.{Enter, Net, Pin}
use Rattle.erc_spec.specs.Drives.{is_weak}
use Rattle.erc_spec.specs.Findings.{findings}
use Rattle.erc_spec.specs.declared.finding.Finding.TheVariants.{Undriven}
use Rattle.ask_spec.specs.Nets.{first_of, inner_net_of, is_same_net, net_of, pins_of}
use Rattle.ask_spec.specs.Places.{at, bits_of, insts_of, nets_of, properties_of}
use Rattle.ask_spec.specs.Roles.{drivers, loads}

-- there is an occurrence of that cell with these properties at the path exactly where the flattening has one
abbrev pub OccurrencesAreTold : Type 0
OccurrencesAreTold = (d : Design) (path : List ℕ) (c : CellId) (properties : List Property) → IsValid d
    → ((at d path ≡ Some c) × (properties_of d path ≡ Some properties)) ↔ Contains (flattening d) (Enter path c properties)

-- there are properties exactly where there is an occurrence
abbrev pub PropertiesAreThere : Type 0
PropertiesAreThere = (d : Design) (path : List ℕ) → is_some (properties_of d path) ≡ is_some (at d path)

-- an instance in an occurrence is the occurrence one step below
abbrev pub InstsAreTold : Type 0
InstsAreTold = (d : Design) (path : List ℕ) (step : ℕ) (c : CellId)
    → (at d (path ++ step ∷ []) ≡ Some c) ↔ ((inst : Inst) × (slice_get (insts_of d path) step ≡ Some inst) × (inst.of ≡ c))

-- the flattening has a net exactly where it is one of those in the occurrence, and it names it by that first net
abbrev pub NetsAreTold : Type 0
NetsAreTold = (d : Design) (path : List ℕ) (n : ℕ) (first : NetAt) → IsValid d
    → Contains (flattening d) (Net path n first) ↔ ((n < length (nets_of d path)) × (first ≡ first_of d (at_path path n)))

-- the flattening has a pin exactly where the occurrence shows that bit, and it names the pin's net as the answer does
abbrev pub PinsAreTold : Type 0
PinsAreTold = (d : Design) (path : List ℕ) (port bit : ℕ) (first : Option NetAt) → IsValid d
    → Contains (flattening d) (Pin path port bit first)
    ↔ (Contains (bits_of d path) (record { port = port; bit = bit }) × (first ≡ net_of d path port bit))

-- where nets join a bit of an occurrence below the top on both sides, both have one first net
abbrev pub SidesAgree : Type 0
SidesAgree = (d : Design) (path : List ℕ) (step port bit : ℕ) (x y : NetAt) → IsValid d → net_of d (path ++ step ∷ []) port bit ≡ Some x
    → inner_net_of d (path ++ step ∷ []) port bit ≡ Some y → x ≡ y

-- at the top there is but one side
abbrev pub TopHasOneSide : Type 0
TopHasOneSide = (d : Design) (port bit : ℕ) → inner_net_of d [] port bit ≡ net_of d [] port bit

-- The pins of all first nets together are the pins of the flattening that have a net: each of these is among the pins of just the nets of
-- one class, which the pin's first net is of.
abbrev pub PinsAreParted : Type 0
PinsAreParted = (d : Design) (path : List ℕ) (port bit : ℕ) (y : NetAt) → IsValid d → Contains (flattening d) (Pin path port bit (Some y))
    → (first_of d y ≡ y) × ((x : NetAt) → Contains (pins_of d x) (Pin path port bit (Some y)) ↔ (first_of d x ≡ y))

-- and there are no others among the pins of a net
abbrev pub OnlyPinsAreThere : Type 0
OnlyPinsAreThere = (d : Design) (x : NetAt) (item : Item) → Contains (pins_of d x) item
    → (path : List ℕ) × (port : ℕ) × (bit : ℕ) × (item ≡ Pin path port bit (Some (first_of d x))) × Contains (flattening d) item

-- nets are of one class exactly where they are connected; then they have the same pins
abbrev pub ClassesAreConnected : Type 0
ClassesAreConnected = (d : Design) (top : TopHead) (x y : NetAt) → IsValid d → d.top ≡ Some top → IsNet d top.cell x → IsNet d top.cell y
    → (is_same_net d x y ≡ true) ↔ Connected d top.cell x y

abbrev pub ClassesHaveOnePins : Type 0
ClassesHaveOnePins = (d : Design) (x y : NetAt) → is_same_net d x y ≡ true → pins_of d x ≡ pins_of d y

-- what is no net has no pins
abbrev pub NoNetHasNoPins : Type 0
NoNetHasNoPins = (d : Design) (top : TopHead) (x : NetAt) → IsValid d → d.top ≡ Some top → (IsNet d top.cell x → ⊥) → pins_of d x ≡ []

-- by the electrical check a class is undriven exactly where it has no drivers
abbrev pub UndrivenHasNoDrivers : Type 0
UndrivenHasNoDrivers = (d : Design) (top : TopHead) (x : NetAt) → IsValid d → d.top ≡ Some top → IsNet d top.cell x
    → Contains (findings d) (Undriven (first_of d x)) ↔ (drivers d x ≡ [])

-- each pin of a net drives it, or is loaded, and only a pin that leads both ways or whose direction is not told does both
abbrev pub EachDrivesOrLoads : Type 0
EachDrivesOrLoads = (d : Design) (x : NetAt) (item : Item) → Contains (pins_of d x) item
    → (Contains (drivers d x) item ⊎ Contains (loads d x) item)
    × ((Contains (drivers d x) item × Contains (loads d x) item) ↔ (is_weak d item ≡ true))
