use Rattle.std.proofs.Common.{◌≡◌, ◌++◌, drop}
use Rattle.net_classes.specs.Joints.{joints_from}
use Rattle.net_classes.proofs.joints.all_joints.Given as goal

abbrev pub invariant-loop-place : goal.invariant-loop-place
invariant-loop-place l = l.joints.items ++ joints_from l.place (drop l.place l.nets) ≡ joints_from 0 l.fn.nets
