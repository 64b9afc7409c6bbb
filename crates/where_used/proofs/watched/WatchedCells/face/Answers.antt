use Rattle.std.proofs.Common.{ap, ◌∙◌, sym, refl}
use Rattle.netlist_schema.specs.Design.{Design}
use Rattle.edit_cells.specs.Parts.{seen_at}
use Rattle.edit_cells.proofs.States.{read_one}
use Rattle.where_used.proofs.watched.WatchedCells.face.Goals as goal

pub returns : goal.returns
returns c = (
  (refl, λ _. tt, read_one _ _ _ _ _ _ _ _ (sym c.self.view_is) c.face_object.ensures c.in_ok-add.ensures),
  rw (sym c.self.view_is) (record { found = c.face_of.ensures.found ∙ ap (λ (d : Design). seen_at d c.args.id) c.design.ensures; limit = c.face_of.ensures.limit; reads = tt }),
)
