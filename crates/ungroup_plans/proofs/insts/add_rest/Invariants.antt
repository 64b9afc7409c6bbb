use Rattle.std.proofs.Common.{◌≡◌, ◌++◌}
use Rattle.ungroup_plans.proofs.insts.add_rest.Given as goal

-- those so far and the rest are all
abbrev pub invariant-loop-inst : goal.invariant-loop-inst
invariant-loop-inst l = record {
  can_next : (goal.iterator-loop-inst).can_next l.inst-iterator;
  is_finite : (goal.iterator-loop-inst).is_finite l.inst-iterator;
  so_far : l.made.items ++ l.inst-iterator ≡ l.initial.made.items ++ l.fn.insts;
}
