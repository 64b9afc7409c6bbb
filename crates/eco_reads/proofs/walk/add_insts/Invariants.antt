use Rattle.std.proofs.Common.{map, take}
use Rattle.std.specs.List.{Contains}
use Rattle.eco_reads.specs.Walk.{GoesOn, IsListed}
use Rattle.eco_reads.proofs.walk.add_insts.Given as goal

-- the cells of the instances so far stand on the list, and so does what was seen
abbrev pub invariant-loop-place : goal.invariant-loop-place
invariant-loop-place l = record {
  listed : IsListed l.seen.keys l.order.items;
  grows : GoesOn l.fn.order.items l.order.items (Contains (map (λ inst. inst.of) (take l.place l.insts)));
}
