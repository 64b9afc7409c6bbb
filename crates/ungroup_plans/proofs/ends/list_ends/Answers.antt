use Rattle.std.proofs.Common.{◌++◌, map, ap, ◌∙◌}
use Rattle.ungroup_plans.specs.Ends.{inner_ends, outer_ends}
use Rattle.ungroup_plans.proofs.EndsLemmas.{ends_are, ends_count}
use Rattle.ungroup_plans.proofs.ends.list_ends.Goals as goal

pub returns-clause-ends : goal.returns-clause-ends
returns-clause-ends c =
    let children = c.len-children.result in
    let place = c.args.place in
    ends_are c.args.around.now place c.args.within.now children c.add_inner.new.lists.items c.len-children.ensures
    (c.in_ok-add_inner.ensures
    ∙ ap (λ v. v ++ map (inner_ends place) c.args.within.now.nets) (c.in_ok-add_outer.ensures ∙ ap (λ v. v ++ map (outer_ends place children) c.args.around.now.nets) c.new-lists.ensures.items))

pub returns-clause-long : goal.returns-clause-long
returns-clause-long c =
    let children = c.len-children.result in
    let place = c.args.place in
    ends_count c.args.around.now place c.args.within.now children c.add_inner.new.lists.items
    (c.in_ok-add_inner.ensures
    ∙ ap (λ v. v ++ map (inner_ends place) c.args.within.now.nets) (c.in_ok-add_outer.ensures ∙ ap (λ v. v ++ map (outer_ends place children) c.args.around.now.nets) c.new-lists.ensures.items))
