use Rattle.std.proofs.Common.{◌≡◌, [], ◌∷◌, ◌++◌, List, map, append-nil, ap, subst, sym, ◌∙◌}
use Rattle.edif_spelling_spec.specs.Tree.{Placed}
use Rattle.edif_spec.specs.Faults.{place_of}
use Rattle.edif_tree.specs.Handles.{here, all}
use Rattle.edif_tree.specs.Eaches.{left}
use Rattle.edif_grammar.proofs.Misplaced.{place_is}
use Rattle.edif_parts.proofs.Steps.{ended, stepped}
use Rattle.edif_nets.proofs.JoinLemmas.{map_push}
use Rattle.edif_nets.proofs.joins.net_places.Goals as goal

pub loop-node-init : goal.loop-node-init
loop-node-init c = record {
  can_next = tt;
  is_finite = tt;
  places = ([], sym (ap left c.into_iter-node-iterator.ensures.into_iter_gives ∙ c.iter-node-items.ensures), sym (append-nil c.args.places.now.items));
}

pub loop-node-preserved : goal.loop-node-preserved
loop-node-preserved c =
    let t = here c.in-Some.node in
    let b = c.loop-node.invariant.places in
    let p : c.in_ok-place.place ≡ place_of t = c.in_ok-place.ensures ∙ (c.place.ensures ∙ place_is t) in
    record {
      can_next = tt;
      is_finite = tt;
      places = (
        b.0 ++ t ∷ [],
        stepped (all c.args.nodes) b.0 (left c.loop-node.node-iterator) (left c.next.new.self) t b.1 c.in-Some.ensures.steps,
        map_push place_of c.args.places.now.items c.loop-node.places.items c.append.new.list.items b.0 t c.in_ok-place.place b.2 p c.in_ok-append.ensures.ok,
      );
    }

pub returns : goal.returns
returns c =
    let b = c.loop-node.invariant.places in
    let P : List Placed → Type 0 = λ v. c.loop-node.places.items ≡ c.args.places.now.items ++ map place_of v in
    subst P (ended (all c.args.nodes) b.0 (left c.loop-node.node-iterator) b.1 c.in-None.ensures.steps.0) b.2
