use Rattle.std.proofs.Common.{◌∙◌, ◌∷◌, ◌++◌, ap, subst, sym}
use Rattle.netlist_schema.specs.Design.{Design}
use Rattle.flat_items.specs.Texts.{IsItemText}
use Rattle.flat_report.proofs.TextLemmas.{line_is}
use Rattle.script_say.proofs.walks.say_ahead.Goals as goal

pub returns-clause-next : goal.returns-clause-next
returns-clause-next g c =
    let lent = c.in-Some.ensures in
    let shown = subst (λ (d : Design). IsItemText d lent.item c.in-Some.item) c.requires.same lent.shown in (
      lent.item,
      lent.first ∙ ap (λ items. lent.item ∷ items) (sym (c.skip.ensures.passed c.requires.more)),
      c.in_ok-text_line.ensures.ok ∙ ap (λ line. c.args.out.now.items ++ line) (line_is (g.S.Shown.design c.args.design.now) lent.item c.in-Some.item shown),
    )
