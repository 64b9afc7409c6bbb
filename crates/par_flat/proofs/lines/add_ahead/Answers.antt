use Rattle.std.proofs.Common.{◌∙◌, ◌∷◌, ◌++◌, ap, sym}
use Rattle.flat_report.specs.Parts.{line_of}
use Rattle.flat_report.proofs.TextLemmas.{line_is}
use Rattle.par_flat.proofs.lines.add_ahead.Goals as goal

pub returns-clause-given : goal.returns-clause-given
returns-clause-given g c =
    let lent = c.in-Some.ensures in (
      lent.item,
      lent.first ∙ ap (λ items. lent.item ∷ items) (sym (c.skip.ensures.passed lent.more)),
      c.in_ok-text_line.ensures.ok
          ∙ ap (λ line. c.args.text.now.items ++ line) (ap (λ d. line_of d c.in-Some.item) c.design.ensures ∙ line_is c.args.ground.now lent.item c.in-Some.item lent.shown),
    )
