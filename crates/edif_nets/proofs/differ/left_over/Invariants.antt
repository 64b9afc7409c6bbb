use Rattle.std.proofs.Common.{◌≡◌, length, take}
use Rattle.edif_nets.proofs.SlotLemmas.{ArePut}
use Rattle.edif_nets.proofs.differ.left_over.Given as goal

abbrev pub invariant-loop-number : goal.invariant-loop-number
invariant-loop-number l = (length l.slots ≡ 4096) × ArePut l.slots l.others.items (take l.number-index l.numbers)
