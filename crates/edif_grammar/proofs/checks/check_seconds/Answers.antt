use Rattle.std.proofs.Common.{◌<◌, length, map, ap, sym, ◌∙◌, inl, inr, Some, arith}
use Rattle.std.proofs.lemmas.List.{length-map}
use Rattle.std.proofs.lemmas.Result.{err_from_is_err_and}
use Rattle.std.proofs.lemmas.Option.{slice_get_within}
use Rattle.edif_tree.specs.Handles.{all}
use Rattle.edif_grammar.specs.Rules.{follower}
use Rattle.edif_grammar.specs.Checks.{OnceFits}
use Rattle.edif_grammar.proofs.CheckLemmas.{each_next, few_once, map_get, second_at}
use Rattle.edif_grammar.proofs.checks.check_seconds.Goals as goal
use Rattle.edif_grammar.proofs.checks.check_seconds.Goals.{then-second_is_bad_form+in_ok-check_once, else-second_is_bad_form}

pub returns-then-len-lt2-clause-ok : goal.returns-then-len-lt2-clause-ok
returns-then-len-lt2-clause-ok c = λ j a e. few_once a (all c.args.nodes) (omega (arith, c.if-len-lt2.true, c.len.ensures))

pub loop-inner-preserved-in_default : goal.loop-inner-preserved-in_default
loop-inner-preserved-in_default c =
    let e = map_get follower c.args.allowed.now c.loop-inner.inner-index _ (omega arith) in
    each_next (λ a. OnceFits a (all c.args.nodes)) (map follower c.args.allowed.now) c.loop-inner.inner-index _ (e ∙ ap (λ v. Some (follower v)) c.in_default.is) tt c.loop-inner.invariant

pub returns-in_err-check_once-clause-err : goal.returns-in_err-check_once-clause-err
returns-in_err-check_once-clause-err c =
    let p = err_from_is_err_and c.from_residual.result c.from_residual.ensures.1 in
    let e = map_get follower c.args.allowed.now c.loop-inner.inner-index _ (omega arith) in
    rw (p.1, p.2) (second_at (map follower c.args.allowed.now) (all c.args.nodes) c.loop-inner.inner-index c.in-Once.keyword _ (e ∙ ap (λ v. Some (follower v)) c.in-Once.is) (sym c.second_is_bad_form.ensures ∙ c.if-second_is_bad_form.true) c.in_err-check_once.ensures.err)

pub loop-inner-preserved : goal.loop-inner-preserved
loop-inner-preserved c =
    let e = map_get follower c.args.allowed.now c.loop-inner.inner-index _ (omega arith) in
    each_next (λ a. OnceFits a (all c.args.nodes)) (map follower c.args.allowed.now) c.loop-inner.inner-index _ (e ∙ ap (λ v. Some (follower v)) c.in-Once.is)
    (elim c.if-second_is_bad_form.branch [
      | then-second_is_bad_form+in_ok-check_once w ↦ inr (w.in_ok-check_once.ensures.ok)
      | else-second_is_bad_form w ↦ inl (sym c.second_is_bad_form.ensures ∙ w.if-second_is_bad_form.false)
    ])
    c.loop-inner.invariant

pub returns-clause-ok : goal.returns-clause-ok
returns-clause-ok c = λ j a e.
    let l : j < length (map follower c.args.allowed.now) = slice_get_within (map follower c.args.allowed.now) j a e in
    c.loop-inner.invariant j a (omega (arith, l, length-map c.args.allowed.now follower)) e
