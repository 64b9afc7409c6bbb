use Rattle.std.proofs.Common.{[], ◌∷◌, sym, ap, ◌∙◌}
use Rattle.edit_cells.specs.declared.change.CellChange.{CellChange}
use Rattle.where_used.proofs.Keeping.{only_item}
use Rattle.where_used.proofs.Moving.{refill_told}
use Rattle.where_used.proofs.indexed.refill_of.Goals as goal

pub returns-in-Inner : goal.returns-in-Inner
returns-in-Inner c =
    refill_told (λ r. r.cell) (λ r. r.places.items) c.args.design.now c.args.change.now c.in-Inner.id c.in-Inner.contents c.refill_in.result
    (sym c.as_slice-cells.ensures
    ∙ only_item c.as_slice-cells.result.now c.index-cells-0.result c.if-cells-ne1.false c.index-cells-0.is
    ∙ ap (λ (x : CellChange). x ∷ []) c.in-Inner.is)
    c.refill_in.ensures
