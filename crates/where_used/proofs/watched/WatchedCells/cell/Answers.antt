use Rattle.std.proofs.Common.{ap, ◌∙◌, subst, sym, refl}
use Rattle.std.specs.Prelude.{IfSome}
use Rattle.netlist_schema.specs.Design.{Design, cell_at}
use Rattle.netlist_schema.specs.Valid.{IsValidCell}
use Rattle.edit_cells.proofs.States.{read_two}
use Rattle.where_used.proofs.watched.WatchedCells.cell.Goals as goal

pub returns : goal.returns
returns c = (
  (refl, λ _. tt, read_two _ _ _ _ _ _ _ _ _ _ (sym c.self.view_is) c.face_object.ensures c.contents_object.ensures c.in_ok-add_two.ensures),
  rw (sym c.self.view_is) (record {
    found = c.cell.ensures.value ∙ ap (λ (d : Design). cell_at d c.args.id) c.design.ensures;
    valid = subst (λ (d : Design). IfSome c.cell.result (λ body. IsValidCell d c.args.id body.now)) c.design.ensures c.cell.ensures.valid;
    reads = tt;
  }),
)
