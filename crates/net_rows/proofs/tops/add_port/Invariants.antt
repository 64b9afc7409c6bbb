use Rattle.std.proofs.Common.{◌≡◌, ◌-◌, ◌++◌, map}
use Rattle.std.specs.List.{range_with_len}
use Rattle.net_rows.specs.Tops.{bit_at, bit_of}
use Rattle.net_rows.proofs.tops.add_port.Given as goal

abbrev pub invariant-loop-bit : goal.invariant-loop-bit
invariant-loop-bit l =
    map bit_of l.bits.items ++ map (bit_at l.fn.place) (range_with_len l.bit (l.fn.count - l.bit)) ≡ map bit_of l.fn.bits.items ++ map (bit_at l.fn.place) (range_with_len 0 l.fn.count)
