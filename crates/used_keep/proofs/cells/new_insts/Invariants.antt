use Rattle.std.proofs.Common.{◌≡◌, ◌++◌, map}
use Rattle.edif_spec.specs.Arranged.{new_inst}
use Rattle.used_keep.proofs.cells.new_insts.Given as goal

-- those so far and the rest are all
abbrev pub invariant-loop-inst : goal.invariant-loop-inst
invariant-loop-inst l = record {
  can_next : (goal.iterator-loop-inst).can_next l.inst-iterator;
  is_finite : (goal.iterator-loop-inst).is_finite l.inst-iterator;
  so_far : l.made.items ++ map (new_inst l.places) l.inst-iterator ≡ map (new_inst l.places) l.insts;
}
