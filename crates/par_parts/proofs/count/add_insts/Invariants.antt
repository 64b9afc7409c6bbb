use Rattle.std.proofs.Common.{◌≡◌, ◌+◌, ◌-◌, ◌^◌, min, take}
use Rattle.std.specs.List.{sum_by}
use Rattle.par_parts.specs.Counts.{kept_of}
use Rattle.par_parts.proofs.count.add_insts.Given as goal

abbrev pub invariant-loop-place : goal.invariant-loop-place
invariant-loop-place l = l.count ≡ min (l.own + sum_by (kept_of l.counts) (take l.place l.insts)) (2 ^ 64 - 1)
