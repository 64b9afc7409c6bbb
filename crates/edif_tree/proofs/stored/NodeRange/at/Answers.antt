use Rattle.std.proofs.Common.{◌-◌, arith}
use Rattle.edif_tree.proofs.RangeLemmas.{get_id, length_ids}
use Rattle.edif_tree.proofs.stored.NodeRange.at.Goals as goal

pub overflow_cast-result : goal.overflow_cast-result
overflow_cast-result c = omega (arith, length_ids c.args.self.first (c.args.self.end - c.args.self.first), c.requires)

pub overflow_add-result : goal.overflow_add-result
overflow_add-result c = omega (arith, length_ids c.args.self.first (c.args.self.end - c.args.self.first), c.requires)

pub returns : goal.returns
returns c =
    let first = c.args.self.first in
    let count = c.args.self.end - first in
    get_id first count c.args.i (omega (arith, length_ids first count, c.requires))
