use Rattle.std.proofs.Common.{get_or, subst, sym, take}
use Rattle.std.proofs.lemmas.List.{get_or_default, take_all, take_more}
use Rattle.net_classes.specs.declared.joints.Joint.{Joint}
use Rattle.net_pins.specs.Levels.{AreAdded}
use Rattle.net_pins.proofs.LevelLemmas.{added_both, added_none, added_one, added_stop}
use Rattle.net_pins.proofs.levels.add_leads.Goals as goal

abbrev none : Joint
none = record { inst = 0; port = 0; bit = 0; net = 0 }

pub loop-joint-init : goal.loop-joint-init
loop-joint-init c = added_none c.args.classes.now c.args.of c.args.inst c.args.firsts.now.items

pub returns-then-joint-inst : goal.returns-then-joint-inst
returns-then-joint-inst c =
    let k = c.loop-joint.joint-index in
    let joints = c.args.joints.now in
    let joint : Joint = get_or joints k none in
    added_stop c.args.classes.now c.args.of joints c.args.inst k joint c.requires.order c.requires.front c.loop-joint-test.true
    (get_or_default joints k joint none c.loop-joint-test.true) c.if-joint-inst.true c.args.firsts.now.items c.loop-joint.firsts.items c.loop-joint.invariant

pub loop-joint-preserved : goal.loop-joint-preserved
loop-joint-preserved c =
    let k = c.loop-joint.joint-index in
    let joints = c.args.joints.now in
    let joint : Joint = get_or joints k none in
    let facts = c.args.classes.now in
    subst (λ js. AreAdded facts c.args.of c.args.inst js c.args.firsts.now.items c.add_lead.new.firsts.items) (sym (take_more joints k none c.loop-joint-test.true))
    (added_both facts c.args.of c.args.inst (take k joints) _ c.args.firsts.now.items c.loop-joint.firsts.items c.add_lead.new.firsts.items c.loop-joint.invariant
    (added_one facts c.args.of c.args.inst joint c.first_at.result c.loop-joint.firsts.items c.add_lead.new.firsts.items c.if-joint-inst.false c.first_at.ensures c.in_ok-add_lead.ensures))

pub returns : goal.returns
returns c =
    subst (λ js. AreAdded c.args.classes.now c.args.of c.args.inst js c.args.firsts.now.items c.loop-joint.firsts.items)
    (take_all c.loop-joint.joint-index c.args.joints.now c.loop-joint-test.false) c.loop-joint.invariant
