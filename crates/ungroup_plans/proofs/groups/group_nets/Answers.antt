use Rattle.std.proofs.Common.{subst, ◌∙◌}
use Rattle.ungroup_plans.specs.Grouped.{first_nets}
use Rattle.ungroup_plans.specs.Heads.{site}
use Rattle.ungroup_plans.specs.Lists.{AreGathered}
use Rattle.ungroup_plans.specs.declared.groups.Grouped.{Grouped}
use Rattle.ungroup_plans.proofs.GroupedLemmas.{grouped_are}
use Rattle.ungroup_plans.proofs.groups.group_nets.Goals as goal

pub returns : goal.returns
returns c = λ inst.
    let heads = c.in_ok-heads.heads.items in
    let ends = c.in_ok-ends.ends.items in
    let lists = c.in_ok-lists.lists.items in
    let made : Grouped = record { kept = c.in_ok-kept.kept; loose = c.in_ok-loose.loose } in
    grouped_are (site c.args.around.now c.args.place inst c.args.within.now) heads ends lists made (c.in_ok-heads.ensures.heads inst) (c.in_ok-ends.ensures.ends inst)
    (subst (λ v. AreGathered heads v lists) c.as_slice-2.ensures.value (subst (λ v. AreGathered v c.as_slice-2.result.now lists) c.as_slice.ensures.value c.in_ok-lists.ensures))
    (c.in_ok-kept.ensures ∙ (λ i. first_nets 0 (c.as_slice-3.ensures.value i) (c.as_slice-4.ensures.value i) c.args.around.now.nets))
    (c.in_ok-loose.ensures ∙ (λ i. first_nets (c.len.ensures i) (c.as_slice-5.ensures.value i) (c.as_slice-6.ensures.value i) c.args.within.now.nets))
