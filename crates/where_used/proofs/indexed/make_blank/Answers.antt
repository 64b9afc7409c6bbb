use Rattle.std.proofs.Common.{sym, ap, ◌∙◌}
use Rattle.used_spec.specs.Uses.{uses}
use Rattle.where_used.specs.Rows.{with_row, without_row}
use Rattle.where_used.proofs.Blank.{blank_is, row_again}
use Rattle.where_used.proofs.indexed.make_blank.Goals as goal

pub returns-in-Ok-clause-index : goal.returns-in-Ok-clause-index
returns-in-Ok-clause-index c =
    c.in_ok-add_cell.ensures.ok
    ∙ ap (with_row c.args.lib) c.requires.index
    ∙ blank_is c.args.pair.now.design c.args.change c.args.lib c.design_is_valid.ensures c.requires.can c.requires.blank
    ∙ ap uses (sym c.in-Ok.ensures.ok)

pub returns-in-Err-clause-index : goal.returns-in-Err-clause-index
returns-in-Err-clause-index c =
    c.cut_cell.ensures
    ∙ ap (without_row c.args.lib) (c.in_ok-add_cell.ensures.ok ∙ ap (with_row c.args.lib) c.requires.index)
    ∙ row_again c.args.lib (uses c.args.pair.now.design)
    ∙ ap uses (sym c.in-Err.ensures.err)
