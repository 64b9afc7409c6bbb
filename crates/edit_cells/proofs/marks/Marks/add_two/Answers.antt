use Rattle.edit_cells.proofs.Growing.{grows_twice}
use Rattle.edit_cells.proofs.marks.Marks.add_two.Goals as goal

pub returns-in-Ok : goal.returns-in-Ok
returns-in-Ok c = grows_twice _ _ _ _ _ c.in_ok-add.ensures c.in-Ok.ensures
