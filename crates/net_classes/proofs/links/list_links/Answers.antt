use Rattle.std.proofs.Common.{◌≡◌, Option, arith, get_or, sym, ◌∙◌}
use Rattle.std.specs.Prelude.{map}
use Rattle.std.specs.BTreeMap.{get}
use Rattle.std.proofs.lemmas.List.{get_or_default}
use Rattle.net_classes.specs.Facts.{facts_of}
use Rattle.net_classes.specs.Links.{class_cmp, class_in}
use Rattle.net_classes.specs.declared.joints.Joint.{Joint}
use Rattle.net_classes.specs.declared.links.Class.{Class}
use Rattle.net_classes.proofs.LinkLemmas.{linked_all, step_none, step_some}
use Rattle.net_classes.proofs.links.list_links.Goals as goal
use Rattle.net_classes.proofs.links.list_links.Goals.{in-Some+in_ok-add_link-in-Some, in-None}

pub loop-joint-preserved : goal.loop-joint-preserved
loop-joint-preserved c =
    let class : Joint → Option Class = class_in (map (λ row. map facts_of row.items) c.args.cells.now) c.args.insts.now in
    let seen = get class_cmp c.loop-joint.seen in
    let none : Joint = record { inst = 0; port = 0; bit = 0; net = 0 } in
    let here : Joint = get_or c.args.joints.now c.loop-joint.joint-index none in
    let at : here ≡ get_or c.args.joints.now c.loop-joint.joint-index here = get_or_default c.args.joints.now c.loop-joint.joint-index none here c.loop-joint-test.true in
    elim c.match-class_of.branch [
      | in-Some+in_ok-add_link-in-Some w ↦
          rw (w.seen-is, w.pairs-is) (step_some class c.args.joints.now c.loop-joint.joint-index here c.loop-joint-test.true at
          seen (get class_cmp w.add_link.new.seen) c.loop-joint.pairs.items w.add_link.new.pairs.items w.in-Some.class c.loop-joint.invariant (sym c.class_of.ensures ∙ w.in-Some.is) w.in_ok-add_link-in-Some.ensures)
      | in-None w ↦
          rw (w.seen-is, w.pairs-is) (step_none class c.args.joints.now c.loop-joint.joint-index here c.loop-joint-test.true at seen c.loop-joint.pairs.items
          c.loop-joint.invariant (sym c.class_of.ensures ∙ w.in-None.is))
    ]

pub returns : goal.returns
returns c =
    let class : Joint → Option Class = class_in (map (λ row. map facts_of row.items) c.args.cells.now) c.args.insts.now in
    linked_all class c.args.joints.now c.loop-joint.joint-index (get class_cmp c.loop-joint.seen) c.loop-joint.pairs.items (omega (arith, c.loop-joint-test.false)) c.loop-joint.invariant
