use Rattle.std.proofs.Common.{◌++◌, ◌∷◌, ◌∙◌, [], ◌+◌, ◌<◌, rules, List, length, ap, arith}
use Rattle.std.proofs.lemmas.List.{get_or_default}
use Rattle.netlist_schema.specs.Types.{End, Net}
use Rattle.ungroup_plans.proofs.FirstNets.{first_taken, other_passed}
use Rattle.ungroup_plans.specs.Grouped.{first_nets}
use Rattle.ungroup_plans.proofs.groups.first_nets.Goals as goal
use Rattle.ungroup_plans.proofs.groups.first_nets.Goals.{then-heads-number+in_ok-with_ends+in_ok-push, else-heads-number}

pub loop-place-preserved : goal.loop-place-preserved
loop-place-preserved c =
    let all = first_nets c.args.behind c.args.heads.now c.args.lists.now c.args.nets.now in
    let within : c.args.behind + c.loop-place.place < length c.args.lists.now =
    (let heads = c.requires.heads in let lists = c.requires.lists in let more = c.loop-place-test.true in let end = c.len-place-end.ensures in omega (arith, heads, lists, more, end)) in
    elim c.if-heads-number.branch [
      | then-heads-number+in_ok-with_ends+in_ok-push w ↦
          first_taken c.args.behind c.args.heads.now c.args.lists.now c.args.nets.now c.loop-place.place c.at-net.result.now c.loop-place.made.items c.if-heads-number.made.items all
          c.at-net.ensures.there (search rules)
          (ap (λ v. v.items) w.made-is ∙ w.in_ok-push.ensures.items ∙ ap (λ (n : Net). c.loop-place.made.items ++ n ∷ [])
          (w.in_ok-with_ends.ensures ∙ ap (λ (ends : List End). record c.at-net.result.now { ends = ends })
          (w.index-lists-number.is ∙ get_or_default c.args.lists.now (c.args.behind + c.loop-place.place) w.index-lists-number.result [] within))) c.loop-place.invariant
      | else-heads-number w ↦
          other_passed c.args.behind c.args.heads.now c.args.lists.now c.args.nets.now c.loop-place.place c.at-net.result.now c.loop-place.made.items c.if-heads-number.made.items all
          c.at-net.ensures.there (search rules) (search rules) c.loop-place.invariant
    ]
