-- What an electrical check finds in a design.
use Rattle.std.specs.Prelude.{ℕ, ◌-◌, ◌^◌, List, [], ◌∷◌, ◌++◌, Bool, ◌&&◌, ◌||◌, None, Some, min, nat_lt, if◌then◌else◌}
use Rattle.std.specs.List.{count_by, flat_map, list_any}
use Rattle.netlist_schema.specs.Design.{Design}
use Rattle.flat_spec.specs.ConnectionTest.{same_net}
use Rattle.flat_spec.specs.Flattening.{flattening}
use Rattle.flat_spec.specs.Paths.{at_path}
use Rattle.flat_spec.specs.Types.{Item, NetAt}
use Rattle.flat_spec.specs.declared.item.Item.TheVariants.{Enter, Net, Pin}
use Rattle.erc_spec.specs.Drives.{direction_at, is_at, is_open_port, is_strong, is_weak}
use Rattle.erc_spec.specs.Types.{Finding}
use Rattle.erc_spec.specs.declared.finding.Finding.TheVariants.{Undriven, Many, Open}

-- how many of the items are strong pins at the net
abbrev pub strong_pins : Design → List Item → NetAt → ℕ
strong_pins d items x = count_by (λ item. is_strong d item && is_at x item) items

-- one of the items is a strong or a weak pin at the net
abbrev pub is_driven : Design → List Item → NetAt → Bool
is_driven d items x = list_any (λ item. (is_strong d item || is_weak d item) && is_at x item) items

-- a count, which stands still at the greatest number of 64 bits
abbrev pub capped : ℕ → ℕ
capped n = min n (2 ^ 64 - 1)

-- what is found of a net by the pins among the items: no driver, or several strong ones
abbrev pub net_finding : Design → List Item → NetAt → List Finding
net_finding d items x =
    if is_driven d items x then (if nat_lt 1 (strong_pins d items x) then Many x (capped (strong_pins d items x)) ∷ [] else [])
    else Undriven x ∷ []

-- the net of a net item that is its own first
abbrev pub first_net : Item → List NetAt
first_net (Enter path cell properties) = []
first_net (Net path net first) = if same_net (at_path path net) first then first ∷ [] else []
first_net (Pin path port bit first) = []

-- the nets that are the first of those connected with them, in order
abbrev pub first_nets : List Item → List NetAt
first_nets items = flat_map first_net items

-- what is found of a pin: an input of a leaf below the top that no net joins
abbrev pub pin_finding : Design → Item → List Finding
pin_finding d (Enter path cell properties) = []
pin_finding d (Net path net first) = []
pin_finding d (Pin path port bit None) = if is_open_port path (direction_at d path port) then Open path port bit ∷ [] else []
pin_finding d (Pin path port bit (Some first)) = []

-- what is found by these items: net by net, and then pin by pin
abbrev pub findings_in : Design → List Item → List Finding
findings_in d items = flat_map (net_finding d items) (first_nets items) ++ flat_map (pin_finding d) items

-- what is found in the design; nothing where there is no top
abbrev pub findings : Design → List Finding
findings d = findings_in d (flattening d)
