-- The bits of the top, by the first nets that are connected with them.
use Rattle.std.specs.Prelude.{◌≡◌, ◌↔◌, ◌&&◌, ◌||◌, ℕ, List, [], Bool, true, false, Option, Some, None, map, nat_eq, nat_lt, slice_get}
use Rattle.std.specs.List.{AllPairs, Contains, range_with_len}
use Rattle.std.specs.Option.{option_eq, option_map_or}
use Rattle.netlist_schema.specs.Design.{Design, cell_at, port_width}
use Rattle.netlist_schema.specs.Types.{CellBody, CellId, Port}
use Rattle.flat_spec.specs.Paths.{Bit}
use Rattle.flat_spec.specs.Pins.{own_bits}
use Rattle.erc_spec.specs.Told.{BitBefore}
use Rattle.ask_spec.specs.declared.role.Role.{Role}
use Rattle.net_classes.specs.Facts.{Facts, first_at}
use Rattle.net_rows.specs.Rows.{direction_in, port_stands}
use Rattle.net_rows.specs.declared.tops.OwnBit.{OwnBit}

-- the first bit comes before the second: by port, and within one by bit
abbrev pub bit_before : Bit → Bit → Bool
bit_before a b = nat_lt a.port b.port || (nat_eq a.port b.port && nat_lt a.bit b.bit)

abbrev pub bit_of : OwnBit → Bit
bit_of own = record { port = own.port; bit = own.bit }

-- a list for each first net of the top
abbrev pub TopTable : Type 0
TopTable = List (List OwnBit)

abbrev pub bits_in : TopTable → ℕ → List OwnBit
bits_in lists f = option_map_or (λ bits. bits) (slice_get lists f) []

-- the bit of the top stands so at its net
abbrev pub bit_stands : Role → Design → CellId → Bit → Bool
bit_stands role d top b = option_map_or (λ body. port_stands role true (direction_in body b.port)) (cell_at d top) false

-- a bit of a port
abbrev pub bit_at : ℕ → ℕ → Bit
bit_at port bit = record { port = port; bit = bit }

-- the bits of a port with that place
abbrev pub port_bits : ℕ → Port → List Bit
port_bits place port = map (bit_at place) (range_with_len 0 (port_width port))

-- the bit stands so, and is connected with that first net
abbrev pub bit_is_in : Role → Facts → CellId → CellBody → ℕ → OwnBit → Bool
bit_is_in role facts top body f own =
    port_stands role true (direction_in body own.port) && option_eq nat_eq (first_at facts top (bit_of own)) (Some f)

-- for each first net the bits of the top that are connected with it and stand so at it, in order
pub record AreTops (role : Role) (d : Design) (facts : Facts) (top : CellId) (lists : TopTable) : Type 0 where
  pub each : (f : ℕ) (own : OwnBit) → Contains (bits_in lists f) own
      ↔ (Contains (own_bits d top) (bit_of own) × (first_at facts top (bit_of own) ≡ Some f) × (bit_stands role d top (bit_of own) ≡ true))
  pub in_order : (f : ℕ) → AllPairs (λ a b. BitBefore (bit_of a) (bit_of b)) (bits_in lists f)

-- of those that do not come before this bit the first one; none where all come before
abbrev pub IsNextBit : List OwnBit → Bit → Option OwnBit → Type 0
IsNextBit bits b None = (own : OwnBit) → Contains bits own → bit_before (bit_of own) b ≡ true
IsNextBit bits b (Some next) = Contains bits next × (bit_before (bit_of next) b ≡ false)
    × ((own : OwnBit) → Contains bits own → bit_before (bit_of own) b ≡ false → bit_before (bit_of own) (bit_of next) ≡ false)
