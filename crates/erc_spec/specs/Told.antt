-- What holds of findings, in the words of the hierarchy: of pins, of the nets that join them, and of connection.
use Rattle.std.specs.Prelude.{◌≡◌, ◌↔◌, ◌<◌, ◌⊎◌, ℕ, List, [], ◌∷◌, length, true, ◌||◌, Some}
use Rattle.std.specs.List.{AllPairs, Contains, flat_map}
use Rattle.std.specs.Option.{option_map_or}
use Rattle.netlist_schema.specs.Design.{Design, cell_at}
use Rattle.netlist_schema.specs.Names.{AreDistinct}
use Rattle.netlist_schema.specs.Types.{CellId, TopHead}
use Rattle.netlist_schema.specs.Valid.{IsValid}
use Rattle.flat_spec.specs.Connection.{Connected}
use Rattle.flat_spec.specs.PathOrder.{NetBefore, PathBefore}
use Rattle.flat_spec.specs.Paths.{Bit, Reaches, IsNet}
use Rattle.flat_spec.specs.Pins.{JoinsPin, shown_bits}
use Rattle.flat_spec.specs.Representatives.{representative}
use Rattle.flat_spec.specs.Types.{NetAt}
use Rattle.erc_spec.specs.Drives.{direction_at, is_either, is_open_port, is_strong_port}
use Rattle.erc_spec.specs.Findings.{capped, findings}
use Rattle.erc_spec.specs.Types.{Finding}
use Rattle.erc_spec.specs.declared.finding.Finding.TheVariants.{Undriven, Many, Open}

-- the bits of ports that have pins: those of the top, and those of leaves below it
abbrev pub pin_bits : Design → List ℕ → CellId → List Bit
pin_bits d path c = option_map_or (shown_bits path) (cell_at d c) []

-- a bit of a port of the top, or of a leaf below it
abbrev pub IsPin : Design → CellId → List ℕ → Bit → Type 0
IsPin d root path b = (c : CellId) × Reaches d root path c × Contains (pin_bits d path c) b

-- by its port the pin drives the net that joins it, strongly or weakly; strongly; or calls for a net
abbrev pub Drives : Design → List ℕ → Bit → Type 0
Drives d path b = (is_strong_port path (direction_at d path b.port) || is_either (direction_at d path b.port)) ≡ true

abbrev pub DrivesStrongly : Design → List ℕ → Bit → Type 0
DrivesStrongly d path b = is_strong_port path (direction_at d path b.port) ≡ true

abbrev pub CallsForNet : Design → List ℕ → Bit → Type 0
CallsForNet d path b = is_open_port path (direction_at d path b.port) ≡ true

-- a net that is connected with this one joins the pin
pub record Leads (d : Design) (root : CellId) (x : NetAt) (path : List ℕ) (b : Bit) : Type 0 where
  pub net : NetAt
  pub pin : IsPin d root path b
  pub joins : JoinsPin d root net path b
  pub connected : Connected d root x net

-- a pin that drives is joined by a net that is connected with this one
abbrev pub HasDriver : Design → CellId → NetAt → Type 0
HasDriver d root x = (path : List ℕ) × (b : Bit) × Leads d root x path b × Drives d path b

-- of the nets connected with a net the first is told to be undriven exactly where none of them joins a pin that drives
abbrev pub UndrivenIsExact : Type 0
UndrivenIsExact = (d : Design) (top : TopHead) (x : NetAt) → IsValid d → d.top ≡ Some top → IsNet d top.cell x
    → Contains (findings d) (Undriven (representative d top.cell x)) ↔ (HasDriver d top.cell x → ⊥)

-- a strong pin is joined by a net that is connected with this one
abbrev pub IsStrongPin : Design → CellId → NetAt → List ℕ × Bit → Type 0
IsStrongPin d root x pin = Leads d root x pin.0 pin.1 × DrivesStrongly d pin.0 pin.1

-- these are the strong pins, each once
pub record AreStrongPins (d : Design) (root : CellId) (x : NetAt) (pins : List (List ℕ × Bit)) : Type 0 where
  pub each : (pin : List ℕ × Bit) → Contains pins pin ↔ IsStrongPin d root x pin
  pub differ : AreDistinct pins

-- the strong pins of a net can be listed
abbrev pub StrongPinsCanBeListed : Type 0
StrongPinsCanBeListed = (d : Design) (top : TopHead) (x : NetAt) → IsValid d → d.top ≡ Some top → IsNet d top.cell x
    → (pins : List (List ℕ × Bit)) × AreStrongPins d top.cell x pins

-- of the nets connected with a net the first is told to have several drivers exactly where its strong pins are two or more, and that many are told
abbrev pub ManyIsExact : Type 0
ManyIsExact = (d : Design) (top : TopHead) (x : NetAt) (pins : List (List ℕ × Bit)) (strong : ℕ) → IsValid d → d.top ≡ Some top → IsNet d top.cell x
    → AreStrongPins d top.cell x pins
    → Contains (findings d) (Many (representative d top.cell x) strong) ↔ ((1 < length pins) × (strong ≡ capped (length pins)))

-- a pin is told to be open exactly where it calls for a net, and no net joins it
abbrev pub OpenIsExact : Type 0
OpenIsExact = (d : Design) (top : TopHead) (path : List ℕ) (b : Bit) → IsValid d → d.top ≡ Some top
    → Contains (findings d) (Open path b.port b.bit)
    ↔ (IsPin d top.cell path b × CallsForNet d path b × ((x : NetAt) → JoinsPin d top.cell x path b → ⊥))

-- the net of a finding
abbrev pub told_net : Finding → List NetAt
told_net (Undriven x) = x ∷ []
told_net (Many x strong) = x ∷ []
told_net (Open path port bit) = []

-- the nets that are told are in order, so none is told twice
abbrev pub NetsAreToldInOrder : Type 0
NetsAreToldInOrder = (d : Design) (top : TopHead) → IsValid d → d.top ≡ Some top → AllPairs NetBefore (flat_map told_net (findings d))

-- the net is there, and is the first of those connected with it
abbrev pub IsFirst : Design → CellId → NetAt → Type 0
IsFirst d root x = IsNet d root x × (representative d root x ≡ x)

-- each net that is told is such a one
abbrev pub ToldNetsAreThere : Type 0
ToldNetsAreThere = (d : Design) (top : TopHead) (x : NetAt) → IsValid d → d.top ≡ Some top
    → Contains (flat_map told_net (findings d)) x → IsFirst d top.cell x

-- by port, and within one by bit
abbrev pub BitBefore : Bit → Bit → Type 0
BitBefore a b = (a.port < b.port) ⊎ ((a.port ≡ b.port) × (a.bit < b.bit))

-- by occurrence, and within one by bit
abbrev pub PinBefore : List ℕ × Bit → List ℕ × Bit → Type 0
PinBefore p q = PathBefore p.0 q.0 ⊎ ((p.0 ≡ q.0) × BitBefore p.1 q.1)

-- the pin of a finding
abbrev pub told_pin : Finding → List (List ℕ × Bit)
told_pin (Undriven x) = []
told_pin (Many x strong) = []
told_pin (Open path port bit) = (path, record { port = port; bit = bit }) ∷ []

-- the pins that are told to be open are in order, so none is told twice
abbrev pub PinsAreToldInOrder : Type 0
PinsAreToldInOrder = (d : Design) (top : TopHead) → IsValid d → d.top ≡ Some top → AllPairs PinBefore (flat_map told_pin (findings d))

-- of two findings, the second told behind the first, the first is of a net or the second of a pin
abbrev pub NetComesFirst : Finding → Finding → Type 0
NetComesFirst f g = (told_pin f ≡ []) ⊎ (told_net g ≡ [])

-- no net is told behind a pin
abbrev pub PinsAreToldLast : Type 0
PinsAreToldLast = (d : Design) → AllPairs NetComesFirst (findings d)
