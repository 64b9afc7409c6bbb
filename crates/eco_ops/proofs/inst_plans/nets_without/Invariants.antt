use Rattle.std.proofs.Common.{◌≡◌, ◌++◌, drop, map, take}
use Rattle.edit_spec.specs.DropInst.{net_without_inst}
use Rattle.eco_ops.proofs.inst_plans.nets_without.Given as goal

-- the nets so far are without the ends, and the others are as they were
abbrev pub invariant-loop-place : goal.invariant-loop-place
invariant-loop-place l = l.made ≡ map (net_without_inst l.inst) (take l.place l.nets) ++ drop l.place l.nets
