use Rattle.std.proofs.Common.{◌≡◌, ◌-◌, ◌++◌, map}
use Rattle.std.specs.List.{range_with_len}
use Rattle.flat_spec.specs.Flattening.{pin_item}
use Rattle.design_model.specs.Items.{bit_at}
use Rattle.design_model.proofs.items.add_port.Given as goal

abbrev pub invariant-loop-bit : goal.invariant-loop-bit
invariant-loop-bit g l =
    l.items.items ++ map (pin_item (g.S.Shown.design l.design) l.nets.root l.path) (map (bit_at l.fn.bits.port) (range_with_len l.bit (l.fn.bits.count - l.bit)))
    ≡ l.fn.items.items ++ map (pin_item (g.S.Shown.design l.design) l.nets.root l.path) (map (bit_at l.fn.bits.port) (range_with_len 0 l.fn.bits.count))
