use Rattle.std.proofs.Common.{◌≡◌, ◌++◌, drop, map}
use Rattle.flat_cells.proofs.below.add_library.Given as goal

abbrev pub invariant-loop-slot : goal.invariant-loop-slot
invariant-loop-slot g l =
    l.cells.items ++ map (λ slot. record { lib = l.lib; slot = slot }) (drop l.slot-index l.slot-items) ≡ l.fn.cells.items ++ map (λ slot. record { lib = l.lib; slot = slot }) l.slot-items
