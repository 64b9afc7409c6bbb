use Rattle.std.proofs.Common.{rules}
use Rattle.std.proofs.lemmas.List.Sorted.{IsPartitionPoint-from_clause}
use Rattle.flat_spec.specs.Paths.{Bit}
use Rattle.net_classes.specs.Joints.{IsNotBehind}
use Rattle.net_pins.specs.Order.{joint_before}
use Rattle.net_pins.proofs.CountLemmas.{joint_back}
use Rattle.net_ways.proofs.CountLemmas.{counted, parted}
use Rattle.net_pins.proofs.levels.count_before.Goals as goal

pub returns : goal.returns
returns c =
    let b : Bit = record { port = c.args.port; bit = c.args.bit } in
    let inst = c.args.inst in
    let joints = c.args.joints.now in
    let point = IsPartitionPoint-from_clause (joint_before inst b) _ _ c.partition_point.ensures.partitioned (parted IsNotBehind (joint_before inst b) joints c.requires (λ i j order e. joint_back inst b i j order e))
    (λ a r q k. search rules) in
    counted (joint_before inst b) joints c.partition_point.result c.partition_point.ensures.bound point
