-- Which pins drive the net at which they are.
use Rattle.std.specs.Prelude.{ℕ, List, [], ◌∷◌, Bool, true, false, Option, Some, None, option_and_then}
use Rattle.std.specs.Option.{option_map_or}
use Rattle.netlist_schema.specs.Design.{Design}
use Rattle.netlist_schema.specs.Types.{Direction}
use Rattle.netlist_schema.specs.declared.cell.Direction.TheVariants.{Input, Output, Inout}
use Rattle.flat_spec.specs.ConnectionTest.{same_net}
use Rattle.flat_spec.specs.Paths.{port_at}
use Rattle.flat_spec.specs.Types.{Item, NetAt}
use Rattle.flat_spec.specs.declared.item.Item.TheVariants.{Enter, Net, Pin}

-- the direction of a port of the occurrence at the path, where it has one
abbrev pub direction_at : Design → List ℕ → ℕ → Option Direction
direction_at d path port = option_and_then (λ p. p.direction) (port_at d path port)

abbrev pub is_input : Option Direction → Bool
is_input None = false
is_input (Some Input) = true
is_input (Some Output) = false
is_input (Some Inout) = false

abbrev pub is_output : Option Direction → Bool
is_output None = false
is_output (Some Input) = false
is_output (Some Output) = true
is_output (Some Inout) = false

-- both ways, or no direction is told
abbrev pub is_either : Option Direction → Bool
is_either None = true
is_either (Some Input) = false
is_either (Some Output) = false
is_either (Some Inout) = true

-- What drives a net strongly: an input of the top, since a value comes in by it, and an output of a leaf below the top. Pins of other
-- occurrences are none: a net goes on inside them.
abbrev pub is_strong_port : List ℕ → Option Direction → Bool
is_strong_port [] direction = is_input direction
is_strong_port (step ∷ path) direction = is_output direction

-- the item is a pin that drives its net strongly
abbrev pub is_strong : Design → Item → Bool
is_strong d (Enter path cell properties) = false
is_strong d (Net path net first) = false
is_strong d (Pin path port bit first) = is_strong_port path (direction_at d path port)

-- the item is a pin that may drive its net: weakly
abbrev pub is_weak : Design → Item → Bool
is_weak d (Enter path cell properties) = false
is_weak d (Net path net first) = false
is_weak d (Pin path port bit first) = is_either (direction_at d path port)

-- the item is a pin that is joined by one of the nets whose first is this one
abbrev pub is_at : NetAt → Item → Bool
is_at x (Enter path cell properties) = false
is_at x (Net path net first) = false
is_at x (Pin path port bit first) = option_map_or (λ y. same_net y x) first false

-- what calls for a net: an input of a leaf below the top
abbrev pub is_open_port : List ℕ → Option Direction → Bool
is_open_port [] direction = false
is_open_port (step ∷ path) direction = is_input direction
