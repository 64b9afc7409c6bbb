use Rattle.std.proofs.Common.{◌≡◌, ◌++◌, drop, map}
use Rattle.flat_spec.specs.Flattening.{pin_item}
use Rattle.design_model.specs.Items.{bits_from}
use Rattle.design_model.proofs.items.add_pins.Given as goal

abbrev pub invariant-loop-place : goal.invariant-loop-place
invariant-loop-place g l =
    l.items.items ++ map (pin_item (g.S.Shown.design l.design) l.nets.root l.path) (bits_from l.place (drop l.place l.ports))
    ≡ l.fn.items.items ++ map (pin_item (g.S.Shown.design l.design) l.nets.root l.path) (bits_from 0 l.ports)
