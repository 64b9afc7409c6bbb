use Rattle.std.proofs.Common.{◌≡◌, take}
use Rattle.std.specs.List.{flat_map}
use Rattle.ungroup_plans.specs.Ends.{outer_up}
use Rattle.ungroup_plans.proofs.ends.outer_ends.Given as goal

abbrev pub invariant-loop-end : goal.invariant-loop-end
invariant-loop-end l = l.made.items ≡ flat_map (λ end. outer_up l.place l.children end end.inst) (take l.end-index l.ends)
