use Rattle.std.proofs.Common.{Some, sym, ap, ◌∙◌}
use Rattle.edit_spec.specs.Cut.{net_without_end}
use Rattle.eco_ops.proofs.CutEnds.{end_cut}
use Rattle.eco_ops.proofs.end_plans.plan_without.Goals as goal

pub returns : goal.returns
returns c =
    end_cut c.args.contents.now c.args.at c.in-Some.place c.at.result.now c.in_ok-net.net c.requires.once (sym c.in-Some.ensures.value) c.in-Some.ensures.within
    (c.in_ok-net.ensures ∙ ap (net_without_end (Some c.args.at)) (c.deref.ensures ∙ c.at.ensures.is))
