use Rattle.std.proofs.Common.{List, [], ◌∷◌, ◌++◌, sym, ap, ◌∙◌, subst}
use Rattle.edif_spelling_spec.specs.Tree.{Placed}
use Rattle.edif_spec.specs.Design as design
use Rattle.edif_spec.specs.Faults.{those_of}
use Rattle.edif_spec.specs.declared.keyword.Keyword.TheVariants.{Instance}
use Rattle.edif_tree.specs.Handles.{here, all}
use Rattle.edif_tree.specs.Eaches.{left}
use Rattle.edif_parts.proofs.Answering.{hand_on}
use Rattle.edif_parts.proofs.Steps.{ended, stepped}
use Rattle.edif_contents.specs.Inners.{InstTakenFault, InstsFault}
use Rattle.edif_contents.proofs.InsideLoops.{InstsSoFar, insts_end, insts_next_fails, insts_push, insts_skip, insts_start}
use Rattle.edif_contents.proofs.insts.take_insts.Goals as goal

pub loop-node-init : goal.loop-node-init
loop-node-init c = record {
  can_next = tt;
  is_finite = tt;
  insts = ([], sym (ap left c.into_iter-node-iterator.ensures.into_iter_gives ∙ c.iter-node-items.ensures), rw (c.in_ok-list.ensures, c.requires) (insts_start c.args.libs.now.libs c.args.own));
}

pub take_inst-requires : goal.take_inst-requires
take_inst-requires c = sym c.if-is_form_of.ensures

pub returns-in_err-take_inst : goal.returns-in_err-take_inst
returns-in_err-take_inst c =
    let t = here c.in-Some.node in
    let ts = all c.args.inner in
    let libs = c.args.libs.now.libs in
    let b = c.loop-node.invariant.insts in
    let xs = c.loop-node.list.items in
    let ns = c.loop-node.names in
    hand_on _ (InstTakenFault libs c.args.own t ns xs) (InstsFault libs c.args.own (those_of Instance ts)) c.from_residual-in_err-take_inst.result c.in_err-take_inst.field-0.0 c.from_residual-in_err-take_inst.ensures.1
    (λ f h. insts_next_fails libs c.args.own ts b.0 (left c.loop-node.node-iterator) (left c.next.new.self) t xs ns f b.1 c.in-Some.ensures.steps (sym c.if-is_form_of.ensures) b.2 h) c.in_err-take_inst.ensures

pub loop-node-preserved-in-Continue-branch-2 : goal.loop-node-preserved-in-Continue-branch-2
loop-node-preserved-in-Continue-branch-2 c =
    let t = here c.in-Some.node in
    let libs = c.args.libs.now.libs in
    let b = c.loop-node.invariant.insts in
    let k = c.in_ok-take_inst.ensures in
    let g = insts_push libs c.args.own b.0 t c.loop-node.list.items k.inst c.loop-node.names c.take_inst.new.names (sym c.if-is_form_of.ensures) k.read k.added.name k.room b.2 in
    let F : List design.Inst → Type 0 = λ v. InstsSoFar libs c.args.own (b.0 ++ t ∷ []) v c.take_inst.new.names in
    record {
      can_next = tt;
      is_finite = tt;
      insts = (b.0 ++ t ∷ [], stepped (all c.args.inner) b.0 (left c.loop-node.node-iterator) (left c.next.new.self) t b.1 c.in-Some.ensures.steps, subst F (sym k.added.insts) g);
    }

pub loop-node-preserved : goal.loop-node-preserved
loop-node-preserved c =
    let t = here c.in-Some.node in
    let b = c.loop-node.invariant.insts in
    let g = insts_skip c.args.libs.now.libs c.args.own b.0 t c.loop-node.list.items c.loop-node.names (sym c.if-is_form_of.ensures) b.2 in
    record {
      can_next = tt;
      is_finite = tt;
      insts = (b.0 ++ t ∷ [], stepped (all c.args.inner) b.0 (left c.loop-node.node-iterator) (left c.next.new.self) t b.1 c.in-Some.ensures.steps, g);
    }

pub returns : goal.returns
returns c =
    let ts = all c.args.inner in
    let libs = c.args.libs.now.libs in
    let b = c.loop-node.invariant.insts in
    let F : List Placed → Type 0 = λ v. InstsSoFar libs c.args.own v c.loop-node.list.items c.loop-node.names in
    insts_end libs c.args.own ts _ (subst F (ended ts b.0 (left c.loop-node.node-iterator) b.1 c.in-None.ensures.steps.0) b.2)
