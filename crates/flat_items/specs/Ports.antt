-- The pins that an occurrence shows, by their ports.
use Rattle.std.specs.Prelude.{◌≡◌, ◌<◌, ◌≤◌, ◌+◌, ℕ, List, [], ◌∷◌, length, take, slice_get, sum_by, is_none, IfSome, nat_lt, if◌then◌else◌}
use Rattle.std.specs.Option.{option_map_or}
use Rattle.netlist_schema.specs.Design.{Design, cell_at, port_width}
use Rattle.netlist_schema.specs.Types.{CellBody, Port}
use Rattle.flat_spec.specs.Occurrences.{Occurrence}
use Rattle.flat_items.specs.declared.place.PinAt.{PinAt}

-- the ports of the cell of an occurrence whose pins are shown: all at the top and of a leaf, none of another
abbrev pub ports_in : List ℕ → CellBody → List Port
ports_in [] body = body.ports
ports_in (i ∷ path) body = if is_none body.contents then body.ports else []

abbrev pub ports_shown : Design → Occurrence → List Port
ports_shown d o = option_map_or (ports_in o.path) (cell_at d o.cell) []

-- the pin is the bit of its port, where there is one, and as many pins come before it as its number says
pub record IsPinAt (ports : List Port) (p : PinAt) : Type 0 where
  pub number_is : p.number ≡ sum_by port_width (take p.port ports) + p.bit
  pub bounded : p.port ≤ length ports
  pub within : IfSome (slice_get ports p.port) (λ port. p.bit < port_width port)

-- the pin behind one whose port has that width: the next bit of the port, or the first of the next port
abbrev pub pin_behind : PinAt → ℕ → PinAt
pin_behind p width =
    if nat_lt (p.bit + 1) width then record { number = p.number + 1; port = p.port; bit = p.bit + 1 }
    else record { number = p.number + 1; port = p.port + 1; bit = 0 }
