use Rattle.std.proofs.Common.{◌≡◌, take}
use Rattle.std.specs.List.{flat_map}
use Rattle.edit_spec.specs.DropInst.{end_without_inst}
use Rattle.eco_ops.proofs.inst_plans.net_without.Given as goal

-- the ends so far, moved or gone
abbrev pub invariant-loop-end : goal.invariant-loop-end
invariant-loop-end l = l.ends.items ≡ flat_map (end_without_inst l.fn.place) (take l.end-index l.end-items)
