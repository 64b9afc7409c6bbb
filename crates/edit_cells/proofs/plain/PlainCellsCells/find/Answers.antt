use Rattle.std.proofs.Common.{sym}
use Rattle.edit_cells.proofs.States.{read_found}
use Rattle.edit_cells.proofs.plain.PlainCellsCells.find.Goals as goal

pub returns-clause-reads : goal.returns-clause-reads
returns-clause-reads c = read_found _ _ _ _ _ _ _ _ _ _ (sym c.self.view_is) c.cell_in-found.ensures c.object_for.ensures c.in_ok-add.ensures
