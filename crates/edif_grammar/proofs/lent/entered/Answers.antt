use Rattle.std.proofs.Common.{ap, sym, ◌∙◌}
use Rattle.edif_spelling_spec.specs.Tree.{bare}
use Rattle.edif_spec.specs.declared.fault.Kind.TheVariants.{BadForm}
use Rattle.edif_spec.specs.declared.fault.MeaningFault.TheVariants.{At, NotInProfile}
use Rattle.edif_tree.specs.Handles.{here}
use Rattle.edif_grammar.specs.Forms.{row_above}
use Rattle.edif_grammar.specs.Rules.{row_fits}
use Rattle.edif_grammar.specs.declared.rules.Argument.TheVariants as arguments
use Rattle.edif_grammar.proofs.Misplaced.{place_is, keyword_found, found_in, nowhere, unknown_out, no_form, nameless, nameless_out}
use Rattle.edif_grammar.proofs.lent.entered.Goals as goal

pub returns-in_default-clause-err : goal.returns-in_default-clause-err
returns-in_default-clause-err c =
    let t = here c.args.node in
    let r = row_above c.args.parent in
    (nameless_out r (bare t) c.in_default.ensures.none, ap (λ v. At BadForm v) (c.place-place.ensures ∙ place_is t) ∙ sym (nameless r t c.in_default.ensures.none))

pub returns-in_default-keyword-clause-err : goal.returns-in_default-keyword-clause-err
returns-in_default-keyword-clause-err c =
    let t = here c.args.node in
    let r = row_above c.args.parent in
    let name = c.in-Some.name.now in
    let e = c.in-Some.ensures.some.0 in
    let out = unknown_out r (bare t) name e (sym c.keyword.ensures ∙ c.in_default-keyword.is) in
    (no_form r (bare t) out, ap (λ v. NotInProfile name v) (c.place-place.ensures ∙ place_is t) ∙ sym (nowhere BadForm r t name e out))

pub returns-then-not-has-clause-err : goal.returns-then-not-has-clause-err
returns-then-not-has-clause-err c =
    let t = here c.args.node in
    let r = row_above c.args.parent in
    let name = c.in-Some.name.now in
    let e = c.in-Some.ensures.some.0 in
    let k = c.in-Some-keyword.keyword in
    let has = sym (found_in r (bare t) name k e (sym c.keyword.ensures ∙ c.in-Some-keyword.is)) ∙ ap (λ v. row_fits v (arguments.Form k)) (sym c.rule_above.ensures) in
    let out = has ∙ (sym c.has.ensures ∙ c.if-not-has.true) in
    (no_form r (bare t) out, ap (λ v. NotInProfile name v) (c.place-place.ensures ∙ place_is t) ∙ sym (nowhere BadForm r t name e out))

pub returns-clause-ok : goal.returns-clause-ok
returns-clause-ok c =
    let t = here c.args.node in
    let r = row_above c.args.parent in
    let name = c.in-Some.name.now in
    let s = c.in-Some.ensures.some in
    let k = c.in-Some-keyword.keyword in
    let f = sym c.keyword.ensures ∙ c.in-Some-keyword.is in
    let has = sym (found_in r (bare t) name k s.0 f) ∙ ap (λ v. row_fits v (arguments.Form k)) (sym c.rule_above.ensures) in
    (keyword_found k (bare t) name s.0 f, has ∙ (sym c.has.ensures ∙ c.if-not-has.false), s.1)
