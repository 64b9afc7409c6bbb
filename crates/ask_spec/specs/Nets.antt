-- The net at a pin, and the pins at a net.
use Rattle.std.specs.Prelude.{ℕ, List, Bool, Option, option_and_then, filter}
use Rattle.std.specs.Option.{option_map, option_map_or}
use Rattle.netlist_schema.specs.Design.{Design}
use Rattle.flat_spec.specs.ConnectionTest.{same_net}
use Rattle.flat_spec.specs.Flattening.{flattening}
use Rattle.flat_spec.specs.Paths.{own}
use Rattle.flat_spec.specs.Pins.{net_at_pin, net_joining}
use Rattle.flat_spec.specs.Representatives.{representative}
use Rattle.flat_spec.specs.Types.{Item, NetAt}
use Rattle.erc_spec.specs.Drives.{is_at}

-- The first of the nets that are connected with the net: the flattening names each of them by it. What is no net of the design is its
-- own.
abbrev pub first_of : Design → NetAt → NetAt
first_of d x = option_map_or (λ top. representative d top.cell x) d.top x

-- The first net of those connected with the net that joins the bit of the occurrence at the path, seen from outside; none where no net
-- does. A bit of the top is joined in the top's own contents, and one of any other occurrence by a net of its parent.
abbrev pub net_of : Design → List ℕ → ℕ → ℕ → Option NetAt
net_of d path port bit =
    option_and_then (λ top. option_map (representative d top.cell) (net_at_pin d top.cell path (record { port = port; bit = bit }))) d.top

-- The same, seen from inside: the net is one of the occurrence's own contents, which joins the bit as its cell's own.
abbrev pub inner_net_of : Design → List ℕ → ℕ → ℕ → Option NetAt
inner_net_of d path port bit =
    option_and_then (λ top. option_map (representative d top.cell) (net_joining d top.cell path (own (record { port = port; bit = bit })))) d.top

-- two nets are of one class
abbrev pub is_same_net : Design → NetAt → NetAt → Bool
is_same_net d x y = same_net (first_of d x) (first_of d y)

-- The pins of the class of the net, any of whose nets names it: of the items of the flattening the pins that it names by the class' first
-- net, in their order.
abbrev pub pins_of : Design → NetAt → List Item
pins_of d x = filter (is_at (first_of d x)) (flattening d)
