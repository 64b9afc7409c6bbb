use Rattle.std.proofs.Common.{sym, refl}
use Rattle.edit_cells.proofs.States.{read_one}
use Rattle.edit_cells.proofs.plain.PlainCellsCells.face.Goals as goal

pub returns : goal.returns
returns c = ((refl, λ _. tt, read_one _ _ _ _ _ _ _ _ (sym c.self.view_is) c.face_object.ensures c.in_ok-add.ensures), rw (sym c.self.view_is) (record { found = c.face_of.ensures.found; limit = c.face_of.ensures.limit; reads = tt }))
