use Rattle.std.proofs.Common.{◌≡◌, take}
use Rattle.std.specs.List.{flat_map}
use Rattle.edit_spec.specs.DropInst.{end_without_inst}
use Rattle.eco_ops.proofs.inst_plans.has_end_from.Given as goal

-- the ends so far stay as they are
abbrev pub invariant-loop-end : goal.invariant-loop-end
invariant-loop-end l = flat_map (end_without_inst l.place) (take l.end-index l.end-items) ≡ take l.end-index l.end-items
