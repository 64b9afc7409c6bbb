use Rattle.std.proofs.Common.{◌≡◌, take}
use Rattle.std.specs.List.{flat_map}
use Rattle.ungroup_plans.specs.Ends.{inner_up}
use Rattle.ungroup_plans.proofs.ends.inner_ends.Given as goal

abbrev pub invariant-loop-end : goal.invariant-loop-end
invariant-loop-end l = l.made.items ≡ flat_map (λ end. inner_up l.place end end.inst) (take l.end-index l.ends)
