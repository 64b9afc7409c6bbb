use Rattle.std.proofs.Common.{ap, ◌∙◌, sym}
use Rattle.edit_rules_spec.specs.Find.{cell_in}
use Rattle.edit_cells.specs.State.{State}
use Rattle.edit_cells.proofs.States.{read_found}
use Rattle.db_work.proofs.work.WorkCells.find.Goals as goal

pub returns-clause-reads : goal.returns-clause-reads
returns-clause-reads c = read_found _ _ _ _ _ _ _ _ _ _ (sym c.self.view_is) (c.place-found.ensures ∙ ap (λ (f : State). cell_in f.design c.args.name.now c.args.lib) (sym c.self.view_is)) c.object_for.ensures c.in_ok-add.ensures
