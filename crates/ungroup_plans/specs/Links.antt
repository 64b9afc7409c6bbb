-- Nets of two contents that join the same bit of an instance.
use Rattle.std.specs.Prelude.{◌≡◌, ◌+◌, ℕ, List, Option, Some}
use Rattle.std.specs.List.{Contains}
use Rattle.std.specs.Option.{option_map}
use Rattle.std.specs.Ordering.{nat_cmp, ordering_then}
use Rattle.std.specs.declared.cmp.Ordering.{Ordering}
use Rattle.flat_joined_numbers.specs.declared.joined.Pair.{Pair}
use Rattle.ungroup_plans.specs.declared.bits.JoinedBit.{JoinedBit}
use Rattle.ungroup_plans.specs.declared.bits.PortBit.{PortBit}

-- the order of bits, by port and then by bit
abbrev pub bit_cmp : PortBit → PortBit → Ordering
bit_cmp a b = ordering_then (nat_cmp a.port b.port) (nat_cmp a.bit b.bit)

-- each bit has a net that joins it, and no other bit has one
pub record HasNets (bits : List JoinedBit) (nets : PortBit → Option ℕ) : Type 0 where
  pub noted : (b : PortBit) (n : ℕ) → nets b ≡ Some n → Contains bits (record { at = b; net = n })
  pub known : (j : JoinedBit) → Contains bits j → (n : ℕ) × (nets j.at ≡ Some n)

-- the outer net that joins the bit of an inner one, and that one, which is numbered behind the outer ones
abbrev pub link : (PortBit → Option ℕ) → ℕ → JoinedBit → Option Pair
link outer behind j = option_map (λ n. record { first = n; second = behind + j.net }) (outer j.at)
