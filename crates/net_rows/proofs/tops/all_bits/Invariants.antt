use Rattle.std.proofs.Common.{◌≡◌, ℕ, map, take}
use Rattle.std.specs.List.{enumerate_from, flat_map}
use Rattle.netlist_schema.specs.Types.{Port}
use Rattle.net_rows.specs.Tops.{bit_of, port_bits}
use Rattle.net_rows.proofs.tops.all_bits.Given as goal

abbrev pub invariant-loop-place : goal.invariant-loop-place
invariant-loop-place l = map bit_of l.bits.items ≡ flat_map (λ (p : ℕ × Port). port_bits p.0 p.1) (enumerate_from 0 (take l.place l.ports))
