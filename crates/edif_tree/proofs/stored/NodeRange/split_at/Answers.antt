use Rattle.std.proofs.Common.{◌≤◌, ◌-◌, arith}
use Rattle.edif_tree.proofs.RangeLemmas.{ids_back, ids_front, length_ids}
use Rattle.edif_tree.proofs.stored.NodeRange.split_at.Goals as goal

pub overflow_cast-middle : goal.overflow_cast-middle
overflow_cast-middle c = omega (arith, length_ids c.args.self.first (c.args.self.end - c.args.self.first), c.requires)

pub overflow_add-middle : goal.overflow_add-middle
overflow_add-middle c = omega (arith, length_ids c.args.self.first (c.args.self.end - c.args.self.first), c.requires)

pub returns : goal.returns
returns c =
    let first = c.args.self.first in
    let end = c.args.self.end in
    let within : c.args.mid ≤ end - first = omega (arith, length_ids first (end - first), c.requires) in
    record { front = ids_front first end c.args.mid within; back = ids_back first end c.args.mid within }
