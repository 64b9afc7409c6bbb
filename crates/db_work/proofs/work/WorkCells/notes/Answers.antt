use Rattle.std.proofs.Common.{sym, refl}
use Rattle.edit_cells.proofs.States.{read_one}
use Rattle.db_work.proofs.work.WorkCells.notes.Goals as goal

pub returns : goal.returns
returns c = ((refl, λ _. tt, read_one _ _ _ _ _ _ _ _ (sym c.self.view_is) refl c.in_ok-add.ensures), rw (sym c.self.view_is) (record { found = c.notes.ensures; reads = tt }))
