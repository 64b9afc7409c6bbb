use Rattle.std.proofs.Common.{sym, refl}
use Rattle.edit_cells.proofs.States.{read_one}
use Rattle.edit_cells.proofs.plain.PlainCellsCells.contents.Goals as goal

pub returns : goal.returns
returns c = ((refl, λ _. tt, read_one _ _ _ _ _ _ _ _ (sym c.self.view_is) c.contents_object.ensures c.in_ok-add.ensures), rw (sym c.self.view_is) (record { found = c.contents_of.ensures.found; limits = c.contents_of.ensures.limits; reads = tt }))
