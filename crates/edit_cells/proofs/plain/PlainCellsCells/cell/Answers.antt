use Rattle.std.proofs.Common.{sym, refl}
use Rattle.edit_cells.proofs.States.{read_two}
use Rattle.edit_cells.proofs.plain.PlainCellsCells.cell.Goals as goal

pub returns : goal.returns
returns c = ((refl, λ _. tt, read_two _ _ _ _ _ _ _ _ _ _ (sym c.self.view_is) c.face_object.ensures c.contents_object.ensures c.in_ok-add_two.ensures), rw (sym c.self.view_is) (record { found = c.cell.ensures.value; valid = c.cell.ensures.valid; reads = tt }))
