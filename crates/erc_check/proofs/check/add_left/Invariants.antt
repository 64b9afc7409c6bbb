use Rattle.std.proofs.Common.{length}
use Rattle.erc_check.proofs.LeftLemmas.{AreAdded}
use Rattle.erc_check.proofs.check.add_left.Given as goal

abbrev pub invariant-items : goal.invariant-items
invariant-items g l = AreAdded (g.S.Shown.design l.design) l.fn.walk.left l.walk.left l.fn.tally l.tally

abbrev pub decreases-items : goal.decreases-items
decreases-items g l = length l.walk.left
