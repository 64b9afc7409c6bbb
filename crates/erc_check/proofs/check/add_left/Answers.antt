use Rattle.std.proofs.Common.{subst}
use Rattle.erc_check.specs.Tally.{AddsNext}
use Rattle.erc_check.proofs.LeftLemmas.{one_added}
use Rattle.erc_check.proofs.check.add_left.Goals as goal

pub items-preserved : goal.items-preserved
items-preserved g c =
    let d = g.S.Shown.design c.args.design.now in
    one_added d c.args.walk.now.left c.items.walk.left c.add_next.new.walk.left c.args.tally.now c.items.tally c.add_next.new.tally c.items.invariant
    (subst (AddsNext d c.items.walk.left c.add_next.new.walk.left c.items.tally c.add_next.new.tally) c.if-branch.true c.in_ok-add_next.ensures)
