use Rattle.std.proofs.Common.{subst}
use Rattle.std.specs.List.Sorted.{IsPermutation}
use Rattle.net_classes.proofs.JointLemmas.{permuted_joints}
use Rattle.net_classes.proofs.OrderLemmas.{sorted_in_order}
use Rattle.net_classes.proofs.joints.list_joints.Goals as goal

pub returns : goal.returns
returns c = record {
  each = λ j.
      permuted_joints c.args.nets.now c.sort.new.self.items
      (subst (λ v. IsPermutation v c.sort.new.self.items) c.in_ok-joints.ensures c.sort.ensures.permutation) j;
  in_order = sorted_in_order c.sort.new.self.items c.in_ok-sort.ensures.sorted;
}
