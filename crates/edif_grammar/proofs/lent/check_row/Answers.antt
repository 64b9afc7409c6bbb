use Rattle.std.proofs.Common.{true, ◌≡◌, ◌<◌, ◌≤◌, List, length, map, take, drop, refl, ap, sym, ◌∙◌, subst, inl, inr, arith}
use Rattle.std.specs.List.{AllByRecursion}
use Rattle.std.proofs.lemmas.List.{length-map}
use Rattle.std.proofs.lemmas.Result.{err_from_is_err_and}
use Rattle.edif_spelling_spec.specs.Tree.{Placed, bare}
use Rattle.edif_spec.specs.Keyword.{Takes, row}
use Rattle.edif_spec.specs.Rows.{is_follower}
use Rattle.edif_spec.specs.Faults.{arguments, fixed_count, misplaced, place_of, token_kind, FixedFault, FollowerFault, SecondFault}
use Rattle.edif_spec.specs.declared.fault.Kind.TheVariants.{BadForm}
use Rattle.edif_spec.specs.declared.fault.MeaningFault.TheVariants.{At}
use Rattle.edif_tree.specs.Handles.{here, all}
use Rattle.edif_grammar.specs.Forms.{fault_of}
use Rattle.edif_grammar.specs.Rules.{choices, follower, row_of}
use Rattle.edif_grammar.specs.Checks.{FixedFits, OnceFits}
use Rattle.edif_grammar.specs.declared.rules.Rule.{Rule}
use Rattle.edif_grammar.proofs.FormLemmas.{in_row}
use Rattle.edif_grammar.proofs.CheckLemmas.{too_few, row_own, row_back, behind_fixed}
use Rattle.edif_grammar.proofs.Misplaced.{place_is}
use Rattle.edif_grammar.proofs.lent.check_row.Goals as goal

pub returns-then-len-wanted-clause-err : goal.returns-then-len-wanted-clause-err
returns-then-len-wanted-clause-err c =
    let t = here c.args.node in
    let cs = map choices c.in-Takes.wanted.now in
    let fs = map follower c.in-Takes.allowed.now in
    let l : length (arguments t) < length cs = (let n = ap length c.requires.nodes in omega (arith, length-map c.in-Takes.wanted.now choices)) in
    in_row c.args.keyword cs fs t (At BadForm c.place-place.result) (sym c.in-Takes.ensures) (inl (rw (c.place-place.ensures ∙ place_is t) (too_few (misplaced (token_kind c.args.keyword) (Takes cs fs)) (place_of t) cs (arguments t) l)))

pub returns-in_err-check_fixed-clause-err : goal.returns-in_err-check_fixed-clause-err
returns-in_err-check_fixed-clause-err c =
    let t = here c.args.node in
    let p = err_from_is_err_and c.from_residual.result c.from_residual.ensures.1 in
    let cs = map choices c.in-Takes.wanted.now in
    let fs = map follower c.in-Takes.allowed.now in
    let f = fault_of c.in_err-check_fixed.field-0.0 in
    let R : Rule → Type 0 = λ v. FixedFault (misplaced (token_kind c.args.keyword) (row_of v)) (place_of t) cs (all c.args.nodes) f in
    let S : List Placed → Type 0 = λ v. FixedFault (misplaced (token_kind c.args.keyword) (Takes cs fs)) (place_of t) cs v f in
    rw (p.1, p.2) (in_row c.args.keyword cs fs t f (sym c.in-Takes.ensures) (inl (subst S c.requires.nodes (subst R c.in-Takes.is (c.in_err-check_fixed.ensures.err (place_of t))))))

pub returns-in_err-check_inner-clause-err : goal.returns-in_err-check_inner-clause-err
returns-in_err-check_inner-clause-err c =
    let t = here c.args.node in
    let p = err_from_is_err_and c.from_residual-in_err-check_inner.result c.from_residual-in_err-check_inner.ensures.1 in
    let cs = map choices c.in-Takes.wanted.now in
    let fs = map follower c.in-Takes.allowed.now in
    let f = fault_of c.in_err-check_inner.field-0.0 in
    let inner = behind_fixed c.in-Takes.wanted.now (all c.args.nodes) (all c.split_at-2.result.1) (arguments t) c.split_at-2.ensures.back c.requires.nodes in
    let R : Rule → Type 0 = λ v. FollowerFault (misplaced BadForm (row_of v)) fs (all c.split_at-2.result.1) f in
    let S : List Placed → Type 0 = λ v. FollowerFault (misplaced BadForm (Takes cs fs)) fs v f in
    rw (p.1, p.2) (in_row c.args.keyword cs fs t f (sym c.in-Takes.ensures) (inr (inl (subst S inner (subst R c.in-Takes.is c.in_err-check_inner.ensures.err)))))

pub returns-in_err-check_seconds-clause-err : goal.returns-in_err-check_seconds-clause-err
returns-in_err-check_seconds-clause-err c =
    let t = here c.args.node in
    let p = err_from_is_err_and c.from_residual-in_err-check_seconds.result c.from_residual-in_err-check_seconds.ensures.1 in
    let cs = map choices c.in-Takes.wanted.now in
    let fs = map follower c.in-Takes.allowed.now in
    let f = fault_of c.in_err-check_seconds.field-0.0 in
    let inner = behind_fixed c.in-Takes.wanted.now (all c.args.nodes) (all c.split_at-2.result.1) (arguments t) c.split_at-2.ensures.back c.requires.nodes in
    let S : List Placed → Type 0 = λ v. SecondFault fs v f in
    rw (p.1, p.2) (in_row c.args.keyword cs fs t f (sym c.in-Takes.ensures) (inr (inr (subst S inner c.in_err-check_seconds.ensures.err))))

pub returns-clause-ok : goal.returns-clause-ok
returns-clause-ok c =
    let t = here c.args.node in
    let cs = map choices c.in-Takes.wanted.now in
    let fs = map follower c.in-Takes.allowed.now in
    let n : length c.in-Takes.wanted.now ≡ length cs = sym (length-map c.in-Takes.wanted.now choices) in
    let m : length c.in-Takes.wanted.now ≡ fixed_count (row c.args.keyword) = n ∙ ap fixed_count c.in-Takes.ensures in
    let inner = behind_fixed c.in-Takes.wanted.now (all c.args.nodes) (all c.split_at-2.result.1) (arguments t) c.split_at-2.ensures.back c.requires.nodes in
    let l : length cs ≤ length (arguments t) = (let q = ap length c.requires.nodes in omega (arith, n)) in
    let R : Rule → Type 0 = λ v. FixedFits (token_kind c.args.keyword) (row_of v) cs (all c.args.nodes) in
    let X : List Placed → Type 0 = λ v. FixedFits (token_kind c.args.keyword) (Takes cs fs) cs v in
    let Y : List Placed → Type 0 = λ v. AllByRecursion (λ u. is_follower fs (bare u) ≡ true) v in
    record {
      keyword = refl;
      fits = record {
        keyword = c.requires.keyword;
        breaches = λ f b.
            row_own (token_kind c.args.keyword) cs fs t f (subst X c.requires.nodes (subst R c.in-Takes.is c.in_ok-check_fixed.ensures.ok)) l (subst Y inner c.in_ok-check_inner.ensures.ok) (λ j a g. let Z : List Placed → Type 0 = λ v. OnceFits a v in subst Z inner (c.in_ok-check_seconds.ensures.ok j a g))
            (row_back c.args.keyword cs fs t f (sym c.in-Takes.ensures) b);
      };
      place = c.place-place.ensures ∙ place_is t;
      fixed = c.split_at-2.ensures.front ∙ ap (take (length c.in-Takes.wanted.now)) c.requires.nodes ∙ ap (λ v. take v (arguments t)) m;
      inner = c.split_at-2.ensures.back ∙ ap (drop (length c.in-Takes.wanted.now)) c.requires.nodes ∙ ap (λ v. drop v (arguments t)) m;
    }
