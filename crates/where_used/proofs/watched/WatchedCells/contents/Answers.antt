use Rattle.std.proofs.Common.{ap, ◌∙◌, sym, refl}
use Rattle.netlist_schema.specs.Design.{Design}
use Rattle.edit_rules_spec.specs.Seen.{contents_at}
use Rattle.edit_cells.proofs.States.{read_one}
use Rattle.where_used.proofs.watched.WatchedCells.contents.Goals as goal

pub returns : goal.returns
returns c = (
  (refl, λ _. tt, read_one _ _ _ _ _ _ _ _ (sym c.self.view_is) c.contents_object.ensures c.in_ok-add.ensures),
  rw (sym c.self.view_is) (record { found = c.contents_of.ensures.found ∙ ap (λ (d : Design). contents_at d c.args.id) c.design.ensures; limits = c.contents_of.ensures.limits; reads = tt }),
)
