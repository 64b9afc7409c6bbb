use Rattle.std.proofs.Common.{arith, Some, sym, ap, ◌∙◌}
use Rattle.edit_spec.specs.Join.{net_with_end}
use Rattle.eco_ops.proofs.Joined.{end_planned}
use Rattle.eco_ops.proofs.end_plans.plan_end.Goals as goal

pub returns : goal.returns
returns c =
    let count = c.end_count.ensures in
    let few = c.if-end_count-ge-MOST_ENDS.false in
    end_planned c.args.contents.now c.args.at c.args.place c.at-2.result.now c.in_ok-net.net (sym c.in_default.ensures.value) (omega arith) c.requires.within
    (c.in_ok-net.ensures ∙ ap (net_with_end (Some c.args.at)) (c.deref-2.ensures ∙ c.at-2.ensures.is))
