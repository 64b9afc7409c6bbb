use Rattle.std.proofs.Common.{[], ◌∷◌, ◌++◌, List, sym, ap, ◌∙◌, subst}
use Rattle.std.specs.List.{AllZip}
use Rattle.edif_spelling_spec.specs.Tree.{Placed}
use Rattle.edif_spec.specs.Faults.{Among}
use Rattle.edif_spec.specs.declared.keyword.Keyword.TheVariants.{PortRef}
use Rattle.edif_spec.proofs.NetFaultsApart.{zip_append}
use Rattle.edif_tree.specs.Handles.{here, all}
use Rattle.edif_tree.specs.Eaches.{left}
use Rattle.edif_parts.proofs.Answering.{hand_on}
use Rattle.edif_parts.proofs.Steps.{ended, stepped}
use Rattle.edif_contents.specs.Nets.{IsWideEnd, WideEndFault}
use Rattle.edif_contents.proofs.Followers.{next_has}
use Rattle.edif_contents.proofs.NetLemmas.{among_here}
use Rattle.edif_contents.proofs.nets.read_stretches.Goals as goal

pub loop-node-init : goal.loop-node-init
loop-node-init c = record {
  can_next = tt;
  is_finite = tt;
  ends = ([], sym (ap left c.into_iter-node-iterator.ensures.into_iter_gives ∙ c.iter-node-items.ensures), rw c.in_ok-stretches.ensures.items tt);
}

pub read_stretch-requires-clause-keyword : goal.read_stretch-requires-clause-keyword
read_stretch-requires-clause-keyword c =
    let b = c.loop-node.invariant.ends in
    next_has PortRef (all c.args.nodes) b.0 (left c.loop-node.node-iterator) (left c.next.new.self) (here c.in-Some.node) b.1 c.in-Some.ensures.steps c.requires.nodes

pub returns-in_err-stretch : goal.returns-in_err-stretch
returns-in_err-stretch c =
    let t = here c.in-Some.node in
    let ts = all c.args.nodes in
    let s = c.args.around.now in
    let b = c.loop-node.invariant.ends in
    hand_on (AllZip (IsWideEnd s c.args.array.now) ts) (WideEndFault s c.args.array.now t) (Among (WideEndFault s c.args.array.now) ts) c.from_residual-in_err-stretch.result c.in_err-stretch.field-0.0 c.from_residual-in_err-stretch.ensures.1
    (λ f h. among_here (WideEndFault s c.args.array.now) ts b.0 (left c.loop-node.node-iterator) (left c.next.new.self) t f b.1 c.in-Some.ensures.steps h) c.in_err-stretch.ensures

pub loop-node-preserved : goal.loop-node-preserved
loop-node-preserved c =
    let t = here c.in-Some.node in
    let b = c.loop-node.invariant.ends in
    let R = IsWideEnd c.args.around.now c.args.array.now in
    record {
      can_next = tt;
      is_finite = tt;
      ends = (b.0 ++ t ∷ [], stepped (all c.args.nodes) b.0 (left c.loop-node.node-iterator) (left c.next.new.self) t b.1 c.in-Some.ensures.steps, rw c.in_ok-append.ensures.ok (zip_append R b.0 c.loop-node.stretches.items (t ∷ []) (c.in_ok-stretch.stretch ∷ []) b.2 (c.in_ok-stretch.ensures, tt)));
    }

pub returns : goal.returns
returns c =
    let b = c.loop-node.invariant.ends in
    let Z : List Placed → Type 0 = λ v. AllZip (IsWideEnd c.args.around.now c.args.array.now) v c.loop-node.stretches.items in
    rw c.of.ensures (subst Z (ended (all c.args.nodes) b.0 (left c.loop-node.node-iterator) b.1 c.in-None.ensures.steps.0) b.2)
