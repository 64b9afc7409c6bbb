use Rattle.std.proofs.Common.{List, [], ◌∷◌, ◌++◌, sym, ap, ◌∙◌, subst}
use Rattle.edif_spelling_spec.specs.Tree.{Placed}
use Rattle.edif_spec.specs.Faults.{those_of}
use Rattle.edif_spec.specs.declared.keyword.Keyword.TheVariants.{Net}
use Rattle.edif_tree.specs.Handles.{here, all}
use Rattle.edif_tree.specs.Eaches.{left}
use Rattle.edif_parts.proofs.Answering.{hand_on}
use Rattle.edif_parts.proofs.Steps.{ended, stepped}
use Rattle.edif_contents.specs.Nets.{NetsFaultIn, NetsSoFar, NextNetFault}
use Rattle.edif_contents.proofs.InsideLoops.{nets_skip, nets_start}
use Rattle.edif_contents.proofs.nets.take_nets.Goals as goal

pub loop-node-init : goal.loop-node-init
loop-node-init c = record {
  can_next = tt;
  is_finite = tt;
  nets = ([], sym (ap left c.into_iter-node-iterator.ensures.into_iter_gives ∙ c.iter-node-items.ensures), nets_start c.args.around.now c.in_ok-list.list c.in_ok-list.ensures.0 c.in_ok-list.ensures.1 c.in_ok-list.ensures.2);
}

pub take_net-requires-clause-keyword : goal.take_net-requires-clause-keyword
take_net-requires-clause-keyword c = sym c.if-is_form_of.ensures

pub take_net-requires-clause-nets : goal.take_net-requires-clause-nets
take_net-requires-clause-nets c = c.loop-node.invariant.nets.2.count

pub take_net-requires-clause-ends : goal.take_net-requires-clause-ends
take_net-requires-clause-ends c = c.loop-node.invariant.nets.2.ends_count

pub returns-in_err-take_net : goal.returns-in_err-take_net
returns-in_err-take_net c =
    let t = here c.in-Some.node in
    let ts = all c.args.inner in
    let s = c.args.around.now in
    let b = c.loop-node.invariant.nets in
    let rest = left c.next.new.self in
    let e = b.1 ∙ ap (λ v. b.0 ++ v) c.in-Some.ensures.steps in
    hand_on _ (NextNetFault s b.0 t) (NetsFaultIn s (those_of Net ts)) c.from_residual-in_err-take_net.result c.in_err-take_net.field-0.0 c.from_residual-in_err-take_net.ensures.1
    (λ f h. subst (λ v. NetsFaultIn s (those_of Net v) f) (sym e) (h rest)) (c.in_err-take_net.ensures b.0 b.2)

pub loop-node-preserved-in-Continue-branch-2 : goal.loop-node-preserved-in-Continue-branch-2
loop-node-preserved-in-Continue-branch-2 c =
    let t = here c.in-Some.node in
    let b = c.loop-node.invariant.nets in
    record {
      can_next = tt;
      is_finite = tt;
      nets = (b.0 ++ t ∷ [], stepped (all c.args.inner) b.0 (left c.loop-node.node-iterator) (left c.next.new.self) t b.1 c.in-Some.ensures.steps, c.in_ok-take_net.ensures b.0 b.2);
    }

pub loop-node-preserved : goal.loop-node-preserved
loop-node-preserved c =
    let t = here c.in-Some.node in
    let b = c.loop-node.invariant.nets in
    let g = nets_skip c.args.around.now b.0 t c.loop-node.list (sym c.if-is_form_of.ensures) b.2 in
    record {
      can_next = tt;
      is_finite = tt;
      nets = (b.0 ++ t ∷ [], stepped (all c.args.inner) b.0 (left c.loop-node.node-iterator) (left c.next.new.self) t b.1 c.in-Some.ensures.steps, g);
    }

pub returns : goal.returns
returns c =
    let ts = all c.args.inner in
    let s = c.args.around.now in
    let b = c.loop-node.invariant.nets in
    let N : List Placed → Type 0 = λ v. NetsSoFar s v c.loop-node.list in
    subst N (ended ts b.0 (left c.loop-node.node-iterator) b.1 c.in-None.ensures.steps.0) b.2
