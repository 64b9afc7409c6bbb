use Rattle.std.proofs.Common.{◌∙◌, ◌-◌, sym}
use Rattle.edif_tree.proofs.RangeLemmas.{length_ids}
use Rattle.edif_tree.proofs.stored.NodeRange.len.Goals as goal

pub returns : goal.returns
returns c = c.saturating_sub.ensures ∙ sym (length_ids c.args.self.first (c.args.self.end - c.args.self.first))
