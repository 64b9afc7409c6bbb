use Rattle.std.proofs.Common.{get_or, ◌∙◌, refl}
use Rattle.std.proofs.lemmas.List.{get_or_default}
use Rattle.net_classes.specs.declared.joints.Joint.{Joint}
use Rattle.net_names.specs.Names.{first_of, name_in}
use Rattle.net_names.proofs.HandLemmas.{hand_all, hand_more, hand_none}
use Rattle.net_names.proofs.names.hand_down.Goals as goal

pub loop-joint-init : goal.loop-joint-init
loop-joint-init c = record {
  long = refl;
  handed = λ depth count own. hand_none (first_of c.args.classes.now c.args.cell) (name_in c.args.outside.now c.args.firsts.now) depth count c.args.names.now.items own;
}

pub loop-joint-preserved : goal.loop-joint-preserved
loop-joint-preserved c =
    let none : Joint = record { inst = 0; port = 0; bit = 0; net = 0 } in
    let joint : Joint = get_or c.args.joints.now c.loop-joint.joint-index none in
    let is = get_or_default c.args.joints.now c.loop-joint.joint-index none joint c.loop-joint-test.true in
    record {
      long = c.hand_one.ensures.long ∙ c.loop-joint.invariant.long;
      handed = λ depth count own.
          hand_more (first_of c.args.classes.now c.args.cell) (name_in c.args.outside.now c.args.firsts.now) depth count c.args.joints.now c.loop-joint.joint-index joint
          c.loop-joint.names.items c.hand_one.new.names.items c.loop-joint-test.true is c.requires c.hand_one.ensures (c.loop-joint.invariant.handed depth count own);
    }

pub returns-clause-handed : goal.returns-clause-handed
returns-clause-handed c = λ depth count own.
    hand_all (first_of c.args.classes.now c.args.cell) (name_in c.args.outside.now c.args.firsts.now) depth count c.args.joints.now c.loop-joint.joint-index c.loop-joint.names.items
    c.loop-joint-test.false (c.loop-joint.invariant.handed depth count own)
