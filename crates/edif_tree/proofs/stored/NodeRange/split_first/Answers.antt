use Rattle.edif_tree.proofs.RangeLemmas.{ids_first, ids_none}
use Rattle.edif_tree.proofs.stored.NodeRange.split_first.Goals as goal

pub returns-then-self : goal.returns-then-self
returns-then-self c = record { some = tt; none = ids_none c.args.self.first c.args.self.end c.if-self.true }

pub returns : goal.returns
returns c = record { some = ids_first c.args.self.first c.args.self.end c.if-self.false; none = tt }
