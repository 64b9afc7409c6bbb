use Rattle.std.proofs.Common.{◌++◌, ◌∷◌, [], ap, sym, ◌∙◌, refl}
use Rattle.edif_spec.specs.Faults.{those_of}
use Rattle.edif_spec.specs.declared.fault.Kind.TheVariants.{BadForm}
use Rattle.edif_spec.specs.declared.fault.MeaningFault.TheVariants.{At}
use Rattle.edif_tree.specs.Handles.{here, all}
use Rattle.edif_tree.specs.Eaches.{left}
use Rattle.edif_grammar.proofs.Misplaced.{place_is}
use Rattle.edif_grammar.proofs.CheckLemmas.{take_one, skip_one, first_seen, second_seen, seen_once}
use Rattle.edif_grammar.proofs.checks.check_once.Goals as goal

pub loop-node-init : goal.loop-node-init
loop-node-init c = (tt, tt, ([], refl, ap (those_of c.args.keyword) (sym (ap left c.into_iter-node-iterator.ensures.into_iter_gives ∙ c.iter-node-items.ensures))))

pub loop-node-preserved-then-not-is_form_of : goal.loop-node-preserved-then-not-is_form_of
loop-node-preserved-then-not-is_form_of c =
    let b = c.loop-node.invariant.2 in
    (tt, tt, (b.0, b.1, b.2 ∙ ap (λ v. b.0 ++ v) (skip_one c.args.keyword (left c.loop-node.node-iterator) (left c.next.new.self) (here c.in-Some.node) c.in-Some.ensures.steps (sym c.is_form_of.ensures ∙ c.if-not-is_form_of.true))))

pub returns-then-is_there-clause-err : goal.returns-then-is_there-clause-err
returns-then-is_there-clause-err c =
    let k = c.args.keyword in
    let t = here c.in-Some.node in
    let b = c.loop-node.invariant.2 in
    second_seen c.loop-node.is_there b.0 (those_of k (all c.args.nodes)) (those_of k (left c.next.new.self)) t (At BadForm c.place.result) c.if-is_there.true b.1
    (b.2 ∙ ap (λ v. b.0 ++ v) (take_one k (left c.loop-node.node-iterator) (left c.next.new.self) t c.in-Some.ensures.steps (sym c.is_form_of.ensures ∙ c.if-not-is_form_of.false)))
    (ap (λ v. At BadForm v) (c.place.ensures ∙ place_is t))

pub loop-node-preserved : goal.loop-node-preserved
loop-node-preserved c =
    let k = c.args.keyword in
    let t = here c.in-Some.node in
    let b = c.loop-node.invariant.2 in
    let whole = first_seen c.loop-node.is_there b.0 (those_of k (all c.args.nodes)) (those_of k (left c.next.new.self)) t c.if-is_there.false b.1
    (b.2 ∙ ap (λ v. b.0 ++ v) (take_one k (left c.loop-node.node-iterator) (left c.next.new.self) t c.in-Some.ensures.steps (sym c.is_form_of.ensures ∙ c.if-not-is_form_of.false))) in
    (tt, tt, (t ∷ [], (t, refl), whole))

pub returns-clause-ok : goal.returns-clause-ok
returns-clause-ok c =
    let b = c.loop-node.invariant.2 in
    seen_once c.args.keyword c.loop-node.is_there b.0 (all c.args.nodes) (left c.loop-node.node-iterator) b.1 c.in-None.ensures.steps.0 b.2
