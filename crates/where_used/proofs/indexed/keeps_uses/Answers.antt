use Rattle.std.proofs.Common.{List, sym, subst, ◌∙◌}
use Rattle.std.specs.List.{All}
use Rattle.edit_cells.specs.declared.change.CellChange.{CellChange}
use Rattle.where_used.specs.Changes.{KeepsInsts}
use Rattle.where_used.proofs.Keeping.{change_keeps, one_change_keeps, only_item}
use Rattle.where_used.proofs.indexed.keeps_uses.Goals as goal

pub returns-then-cells-ne1 : goal.returns-then-cells-ne1
returns-then-cells-ne1 c = λ is. change_keeps c.args.design.now c.args.change.now (subst (λ (v : List CellChange). All KeepsInsts v) c.as_slice-cells.ensures (c.keeps_insts.ensures is))

pub returns : goal.returns
returns c = λ is.
    one_change_keeps c.args.design.now c.args.change.now c.index-cells-0.result
    (sym c.as_slice-cells.ensures ∙ only_item c.as_slice-cells.result.now c.index-cells-0.result c.if-cells-ne1.false c.index-cells-0.is) (c.keeps_one.ensures is)
