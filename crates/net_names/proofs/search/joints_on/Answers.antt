use Rattle.std.proofs.Common.{◌≡◌, ◌≤◌, length, drop, ap, ◌∙◌, arith}
use Rattle.net_names.proofs.SearchLemmas.{between_counts, from_first}
use Rattle.net_names.proofs.search.joints_on.Goals as goal

pub split_at-requires-2 : goal.split_at-requires-2
split_at-requires-2 c =
    let from_first_is : c.count_near-from.result ≤ c.count_near-upto.result =
    from_first c.args.joints.now c.args.inst c.count_near-from.result c.count_near-upto.result c.count_near-from.ensures c.count_near-upto.ensures in
    let long : length c.split_at.result.0.now ≡ c.count_near-upto.result = c.split_at.ensures.front_len in
    omega (arith, from_first_is, long)

pub returns : goal.returns
returns c =
    let is = c.split_at-2.ensures.back ∙ ap (drop c.count_near-from.result) c.split_at.ensures.front in
    λ j. rw is (between_counts c.args.joints.now c.args.inst c.count_near-from.result c.count_near-upto.result c.count_near-from.ensures c.count_near-upto.ensures j)
