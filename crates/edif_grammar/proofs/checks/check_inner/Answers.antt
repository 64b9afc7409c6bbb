use Rattle.std.proofs.Common.{◌≡◌, List, map, true, ap, sym, ◌∙◌, subst}
use Rattle.std.specs.List.{AllByRecursion}
use Rattle.edif_spelling_spec.specs.Tree.{Placed, bare}
use Rattle.edif_spec.specs.Rows.{is_follower}
use Rattle.edif_spec.specs.Faults.{FollowerFault, misplaced}
use Rattle.edif_spec.specs.declared.fault.Kind.TheVariants.{BadForm}
use Rattle.edif_tree.specs.Handles.{here}
use Rattle.edif_tree.specs.Eaches.{left}
use Rattle.edif_grammar.specs.Forms.{fault_of}
use Rattle.edif_grammar.specs.Rules.{follower, follows, row_of}
use Rattle.edif_grammar.proofs.RuleLemmas.{follows_is}
use Rattle.edif_grammar.proofs.CheckLemmas.{fault_first, fault_later, follows_too}
use Rattle.edif_grammar.proofs.checks.check_inner.Goals as goal

pub loop-node-init : goal.loop-node-init
loop-node-init c =
    let start = ap left c.into_iter-node-iterator.ensures.into_iter_gives ∙ c.iter-node-items.ensures in
    let P : List Placed → Type 0 = λ v. AllByRecursion (λ t. is_follower (map follower c.args.allowed.now) (bare t) ≡ true) v in
    (tt, tt, λ h. subst P start h, λ f b. let Q : List Placed → Type 0 = λ v. FollowerFault (misplaced BadForm (row_of c.args.rule)) (map follower c.args.allowed.now) v f in subst Q start b)

pub returns-then-not-may_follow-clause-err : goal.returns-then-not-may_follow-clause-err
returns-then-not-may_follow-clause-err c =
    let fs = map follower c.args.allowed.now in
    let t = here c.in-Some.node in
    c.loop-node.invariant.3 (fault_of c.misplaced_at.result)
    (fault_first (misplaced BadForm (row_of c.args.rule)) fs (left c.loop-node.node-iterator) (left c.next.new.self) t (fault_of c.misplaced_at.result) c.in-Some.ensures.steps
    (sym (follows_is fs (bare t)) ∙ (ap (follows fs) (sym c.argument_at.ensures) ∙ (sym c.may_follow.ensures ∙ c.if-not-may_follow.true))) c.misplaced_at.ensures)

pub loop-node-preserved : goal.loop-node-preserved
loop-node-preserved c =
    let fs = map follower c.args.allowed.now in
    let t = here c.in-Some.node in
    let wrong = misplaced BadForm (row_of c.args.rule) in
    let e = sym (follows_is fs (bare t)) ∙ (ap (follows fs) (sym c.argument_at.ensures) ∙ (sym c.may_follow.ensures ∙ c.if-not-may_follow.false)) in
    (tt, tt, λ h. c.loop-node.invariant.2 (follows_too fs (left c.loop-node.node-iterator) (left c.next.new.self) t c.in-Some.ensures.steps e h), λ f b. c.loop-node.invariant.3 f (fault_later wrong fs (left c.loop-node.node-iterator) (left c.next.new.self) t f c.in-Some.ensures.steps b))

pub returns-clause-ok : goal.returns-clause-ok
returns-clause-ok c =
    let P : List Placed → Type 0 = λ v. AllByRecursion (λ t. is_follower (map follower c.args.allowed.now) (bare t) ≡ true) v in
    c.loop-node.invariant.2 (subst P (sym c.in-None.ensures.steps.0) tt)
