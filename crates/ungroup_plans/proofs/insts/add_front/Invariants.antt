use Rattle.std.proofs.Common.{◌≡◌, ◌++◌, take}
use Rattle.ungroup_plans.proofs.insts.add_front.Given as goal

-- those before this place are added
abbrev pub invariant-loop-k : goal.invariant-loop-k
invariant-loop-k l = l.made.items ≡ l.initial.made.items ++ take l.k l.insts
