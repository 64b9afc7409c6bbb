use Rattle.std.proofs.Common.{sym, refl}
use Rattle.edit_cells.proofs.States.{read_one}
use Rattle.edit_cells.proofs.plain.PlainCellsCells.count.Goals as goal

pub returns-clause-reads : goal.returns-clause-reads
returns-clause-reads c = read_one _ _ _ _ _ _ _ _ (sym c.self.view_is) refl c.in_ok-add.ensures
