use Rattle.std.proofs.Common.{rules, ◌≡◌, ◌<◌, length, get_or}
use Rattle.net_names.proofs.SearchLemmas.{none_found}
use Rattle.net_names.proofs.search.search_net.Goals as goal

pub returns-else-is_at : goal.returns-else-is_at
returns-else-is_at c =
    let within : c.count_before.result < length c.args.joints.now = search rules in
    let is : c.in_ok-joint.joint.now ≡ get_or c.args.joints.now c.count_before.result c.in_ok-joint.joint.now = search rules in
    none_found c.args.joints.now c.requires c.args.inst (record { port = c.args.port; bit = c.args.bit }) c.count_before.result c.in_ok-joint.joint.now c.count_before.ensures
    within is (c.is_at.ensures.no c.if-is_at.false)
