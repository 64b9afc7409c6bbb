use Rattle.std.proofs.Common.{◌≡◌, get_or}
use Rattle.std.specs.BTreeMap.{get}
use Rattle.std.specs.List.{filter_map}
use Rattle.std.proofs.lemmas.List.{get_or_default}
use Rattle.ungroup_plans.specs.Links.{bit_cmp, link}
use Rattle.ungroup_plans.specs.declared.bits.JoinedBit.{JoinedBit}
use Rattle.ungroup_plans.proofs.RunLemmas.{given_more}
use Rattle.ungroup_plans.proofs.links.list_links.Goals as goal

pub loop-joined-preserved : goal.loop-joined-preserved
loop-joined-preserved c =
    let none : JoinedBit = record { at = record { port = 0; bit = 0 }; net = 0 } in
    let here : JoinedBit = get_or c.args.inner.now c.loop-joined.joined-index none in
    let at : here ≡ get_or c.args.inner.now c.loop-joined.joined-index here = get_or_default c.args.inner.now c.loop-joined.joined-index none here c.loop-joined-test.true in
    given_more (link (get bit_cmp c.args.outer.now) c.args.behind) c.args.inner.now c.loop-joined.joined-index here c.loop-joined.pairs.items c.add_link.new.pairs.items
    (filter_map (link (get bit_cmp c.args.outer.now) c.args.behind) c.args.inner.now) c.loop-joined-test.true at c.in_ok-add_link.ensures c.loop-joined.invariant
