use Rattle.std.proofs.Common.{get_or, subst}
use Rattle.std.proofs.lemmas.List.{get_or_default}
use Rattle.net_classes.specs.declared.joints.Joint.{Joint}
use Rattle.net_ways.specs.Ways.{AreEach}
use Rattle.net_ways.proofs.WayLemmas.{all_each, more_each}
use Rattle.net_ways.proofs.ways.all_ways.Goals as goal

pub loop-joint-preserved : goal.loop-joint-preserved
loop-joint-preserved g c =
    let none : Joint = record { inst = 0; port = 0; bit = 0; net = 0 } in
    let joints = c.joints-joints.result.now in
    let joint : Joint = get_or joints c.loop-joint.joint-index none in
    more_each (g.S.Shown.design c.args.design.now) c.args.classes.now c.args.cell joints c.loop-joint.joint-index joint c.loop-joint-test.true
    (get_or_default joints c.loop-joint.joint-index joint none c.loop-joint-test.true) c.way_of-way.result c.loop-joint.ways.items c.add_way.new.ways.items c.way_of-way.ensures c.in_ok-add_way.ensures
    c.loop-joint.invariant

pub returns : goal.returns
returns g c =
    let d = g.S.Shown.design c.args.design.now in
    let each = all_each d c.args.classes.now c.args.cell c.joints-joints.result.now c.loop-joint.joint-index c.loop-joint.ways.items c.loop-joint-test.false c.loop-joint.invariant in
    subst (λ js. AreEach d c.args.classes.now c.args.cell js c.loop-joint.ways.items) c.joints-joints.ensures each
