use Rattle.std.proofs.Common.{◌≡◌, ◌-◌, ◌++◌, length, take}
use Rattle.ungroup_plans.proofs.notes.first_insts.Given as goal

-- those so far, and as many more as are wanted
abbrev pub invariant-loop-inst : goal.invariant-loop-inst
invariant-loop-inst l = record {
  can_next : (goal.iterator-loop-inst).can_next l.inst-iterator;
  is_finite : (goal.iterator-loop-inst).is_finite l.inst-iterator;
  so_far : l.made.items ++ take (l.count - length l.made.items) l.inst-iterator ≡ take l.count l.fn.insts;
}
