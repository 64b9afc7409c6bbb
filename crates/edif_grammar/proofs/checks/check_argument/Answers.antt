use Rattle.std.proofs.Common.{sym, ◌∙◌}
use Rattle.edif_spec.specs.Faults.{token_kind}
use Rattle.edif_tree.specs.Handles.{here}
use Rattle.edif_grammar.specs.Rules.{choices, row_of}
use Rattle.edif_grammar.proofs.Misplaced.{choice_passes, token_passes, no_choice, form_stays, kind_stays}
use Rattle.edif_grammar.proofs.checks.check_argument.Goals as goal
use Rattle.edif_grammar.proofs.checks.check_argument.Goals.{then-is_token+else-tokens_apart, else-is_token}

pub returns-then-fits-clause-ok : goal.returns-then-fits-clause-ok
returns-then-fits-clause-ok c = choice_passes (token_kind c.args.keyword) (row_of c.args.rule) (choices c.args.wanted) (here c.args.node) c.argument_at-argument.result c.argument_at-argument.ensures (sym c.fits.ensures ∙ c.if-fits.true)

pub returns-then-tokens_apart-clause-ok : goal.returns-then-tokens_apart-clause-ok
returns-then-tokens_apart-clause-ok c =
    token_passes (token_kind c.args.keyword) (row_of c.args.rule) (choices c.args.wanted) (here c.args.node) c.argument_at-argument.result c.argument_at-argument.ensures (sym c.is_token.ensures ∙ c.if-is_token.true)
    (sym c.tokens_apart.ensures ∙ c.if-tokens_apart.true)

pub returns-clause-err : goal.returns-clause-err
returns-clause-err c =
    let t = here c.args.node in
    let r = row_of c.args.rule in (
      no_choice (choices c.args.wanted) (here c.args.node) c.argument_at-argument.result c.argument_at-argument.ensures (sym c.fits.ensures ∙ c.if-fits.false),
      c.misplaced_at.ensures
          ∙ elim c.if-is_token.branch [
            | then-is_token+else-tokens_apart w ↦ kind_stays c.args.keyword r t (sym w.tokens_apart.ensures ∙ w.if-tokens_apart.false)
            | else-is_token w ↦ form_stays c.args.keyword r t c.argument_at-argument.result c.argument_at-argument.ensures (sym c.is_token.ensures ∙ w.if-is_token.false)
          ],
    )
