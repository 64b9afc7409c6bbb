use Rattle.std.proofs.Common.{◌≡◌, get_or}
use Rattle.std.specs.BTreeMap.{get}
use Rattle.std.proofs.lemmas.List.{get_or_default}
use Rattle.ungroup_plans.specs.Links.{bit_cmp}
use Rattle.ungroup_plans.specs.declared.bits.JoinedBit.{JoinedBit}
use Rattle.ungroup_plans.proofs.LinkLemmas.{net_step}
use Rattle.ungroup_plans.proofs.links.nets_by_bit.Goals as goal

pub loop-joined-preserved : goal.loop-joined-preserved
loop-joined-preserved c =
    let none : JoinedBit = record { at = record { port = 0; bit = 0 }; net = 0 } in
    let here : JoinedBit = get_or c.args.bits.now c.loop-joined.joined-index none in
    let at : here ≡ get_or c.args.bits.now c.loop-joined.joined-index here = get_or_default c.args.bits.now c.loop-joined.joined-index none here c.loop-joined-test.true in
    net_step c.args.bits.now c.loop-joined.joined-index here (get bit_cmp c.loop-joined.nets) (get bit_cmp c.insert.new.self) c.loop-joined-test.true at c.loop-joined.invariant
    c.in_ok-insert.ensures.updates.1 c.in_ok-insert.ensures.updates.2
