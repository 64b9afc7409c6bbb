use Rattle.net_pins.proofs.CountLemmas.{next_joint}
use Rattle.net_pins.proofs.levels.joint_from.Goals as goal

pub returns : goal.returns
returns c =
    next_joint c.args.joints.now c.args.inst (record { port = c.args.port; bit = c.args.bit }) c.count_before-count.result c.joint_in.result c.requires c.count_before-count.ensures c.joint_in.ensures
