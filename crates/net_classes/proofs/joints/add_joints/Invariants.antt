use Rattle.std.proofs.Common.{◌≡◌, ◌++◌, drop}
use Rattle.std.specs.List.{flat_map}
use Rattle.net_classes.specs.Joints.{joint_of}
use Rattle.net_classes.proofs.joints.add_joints.Given as goal

abbrev pub invariant-loop-end : goal.invariant-loop-end
invariant-loop-end l =
    l.joints.items ++ flat_map (joint_of l.place) (drop l.end-index l.ends) ≡ l.initial.joints.items ++ flat_map (joint_of l.place) l.ends
