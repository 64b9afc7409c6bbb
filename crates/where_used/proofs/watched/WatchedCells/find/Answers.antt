use Rattle.std.proofs.Common.{ap, ◌∙◌, sym}
use Rattle.netlist_schema.specs.Design.{Design}
use Rattle.edit_rules_spec.specs.Find.{cell_in}
use Rattle.edit_cells.proofs.States.{read_found}
use Rattle.where_used.proofs.watched.WatchedCells.find.Goals as goal

pub returns-clause-reads : goal.returns-clause-reads
returns-clause-reads c = read_found _ _ _ _ _ _ _ _ _ _ (sym c.self.view_is) (c.cell_in-found.ensures ∙ ap (λ (d : Design). cell_in d c.args.name.now c.args.lib) c.design.ensures) c.object_for.ensures c.in_ok-add.ensures
