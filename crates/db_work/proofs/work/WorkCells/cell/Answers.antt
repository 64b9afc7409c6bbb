use Rattle.std.proofs.Common.{sym, refl}
use Rattle.edit_cells.proofs.States.{read_two}
use Rattle.db_work.proofs.work.WorkCells.cell.Goals as goal

pub returns : goal.returns
returns c = ((refl, λ _. tt, read_two _ _ _ _ _ _ _ _ _ _ (sym c.self.view_is) c.face_object.ensures c.contents_object.ensures c.in_ok-add_two.ensures), rw (sym c.self.view_is) (record { found = c.valid_body.ensures.value; valid = c.valid_body.ensures.valid; reads = tt }))
