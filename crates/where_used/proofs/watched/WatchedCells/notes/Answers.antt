use Rattle.std.proofs.Common.{ap, ◌∙◌, sym, refl}
use Rattle.netlist_schema.specs.Design.{Design}
use Rattle.edit_cells.proofs.States.{read_one}
use Rattle.where_used.proofs.watched.WatchedCells.notes.Goals as goal

pub returns : goal.returns
returns c = (
  (refl, λ _. tt, read_one _ _ _ _ _ _ _ _ (sym c.self.view_is) refl c.in_ok-add.ensures),
  rw (sym c.self.view_is) (record { found = c.notes.ensures ∙ ap (λ (d : Design). d.notes) c.design.ensures; reads = tt }),
)
