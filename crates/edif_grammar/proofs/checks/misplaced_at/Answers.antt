use Rattle.std.proofs.Common.{ap, sym, ◌∙◌}
use Rattle.edif_spelling_spec.specs.Tree.{bare}
use Rattle.edif_spec.specs.declared.fault.Kind.TheVariants.{BadForm}
use Rattle.edif_spec.specs.declared.fault.MeaningFault.TheVariants.{At, NotInProfile}
use Rattle.edif_tree.specs.Handles.{here}
use Rattle.edif_grammar.specs.Rules.{row_of, row_fits}
use Rattle.edif_grammar.proofs.Misplaced.{place_is, elsewhere, nameless, nowhere}
use Rattle.edif_grammar.proofs.RuleLemmas.{row_fits_is}
use Rattle.edif_grammar.proofs.checks.misplaced_at.Goals as goal

pub returns-in_default : goal.returns-in_default
returns-in_default c =
    let t = here c.args.node in
    ap (λ v. At BadForm v) (c.place-place.ensures ∙ place_is t) ∙ sym (nameless (row_of c.args.rule) t c.in_default.ensures.none)

pub returns-then-has : goal.returns-then-has
returns-then-has c =
    let t = here c.args.node in
    let r = row_of c.args.rule in
    ap (λ v. At BadForm v) (c.place-place.ensures ∙ place_is t)
    ∙ sym (elsewhere BadForm r t c.in-Some.name.now c.in-Some.ensures.some.0 (sym (row_fits_is r (bare t)) ∙ (ap (row_fits r) (sym c.argument_at.ensures) ∙ (sym c.has.ensures ∙ c.if-has.true))))

pub returns : goal.returns
returns c =
    let t = here c.args.node in
    let r = row_of c.args.rule in
    ap (λ v. NotInProfile c.in-Some.name.now v) (c.place-place.ensures ∙ place_is t)
    ∙ sym (nowhere BadForm r t c.in-Some.name.now c.in-Some.ensures.some.0 (sym (row_fits_is r (bare t)) ∙ (ap (row_fits r) (sym c.argument_at.ensures) ∙ (sym c.has.ensures ∙ c.if-has.false))))
