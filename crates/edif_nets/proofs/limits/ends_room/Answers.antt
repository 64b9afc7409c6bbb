use Rattle.std.proofs.Common.{◌+◌, ◌*◌, ◌≤◌, [], ◌∷◌, ◌++◌, List, length, ap, subst, sym, ◌∙◌, arith}
use Rattle.edif_spelling_spec.specs.Tree.{Placed}
use Rattle.edif_tree.specs.Handles.{here, all}
use Rattle.edif_tree.specs.Eaches.{left}
use Rattle.edif_grammar.proofs.Misplaced.{place_is}
use Rattle.edif_parts.proofs.Steps.{ended, stepped}
use Rattle.edif_nets.proofs.JoinLemmas.{count_more, room_beyond}
use Rattle.edif_nets.proofs.limits.ends_room.Goals as goal

pub loop-node-init : goal.loop-node-init
loop-node-init c = record {
  can_next = tt;
  is_finite = tt;
  count = ([], sym (ap left c.into_iter-node-iterator.ensures.into_iter_gives ∙ c.iter-node-items.ensures), omega arith);
  few = omega arith;
}

pub overflow_add-count : goal.overflow_add-count
overflow_add-count c = omega (arith, c.loop-node.invariant.few)

pub returns-then-count : goal.returns-then-count
returns-then-count c = λ before e.
    let t = here c.in-Some.node in
    let b = c.loop-node.invariant.count in
    let few = c.loop-node.invariant.few in
    let whole = b.1 ∙ ap (λ v. b.0 ++ v) c.in-Some.ensures.steps in
    rw c.over_limit.ensures (λ more. room_beyond 4194304 c.args.joined c.args.size c.place.result (all c.args.nodes) b.0 (left c.next.new.self) before more t whole e (omega (arith, b.2, few)) (omega (arith, b.2)) (c.place.ensures ∙ place_is t))

pub loop-node-preserved : goal.loop-node-preserved
loop-node-preserved c =
    let t = here c.in-Some.node in
    let b = c.loop-node.invariant.count in
    let m = count_more b.0 t c.args.size in
    record {
      can_next = tt;
      is_finite = tt;
      count = (b.0 ++ t ∷ [], stepped (all c.args.nodes) b.0 (left c.loop-node.node-iterator) (left c.next.new.self) t b.1 c.in-Some.ensures.steps, omega (arith, m, b.2));
      few = omega arith;
    }

pub returns : goal.returns
returns c = λ before e.
    let b = c.loop-node.invariant.count in
    let few = c.loop-node.invariant.few in
    let P : List Placed → Type 0 = λ v. c.args.joined + length v * c.args.size ≤ 4194304 in
    subst P (ended (all c.args.nodes) b.0 (left c.loop-node.node-iterator) b.1 c.in-None.ensures.steps.0) (omega (arith, b.2, few))
