use Rattle.std.proofs.Common.{map, take}
use Rattle.ungroup_plans.specs.Taken.{IsOf}
use Rattle.ungroup_plans.proofs.insts.taken_names.Given as goal

abbrev pub invariant-loop-place : goal.invariant-loop-place
invariant-loop-place l = IsOf l.taken (map (λ inst. inst.name.id) (take l.place l.insts))
